pub mod Lists
pub mod Taking
pub mod Lifting
pub mod Anew
pub mod Found
pub mod Along
pub mod Numbers
