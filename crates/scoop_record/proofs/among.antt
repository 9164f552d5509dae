-- The meaning of the texts under a schema that may have other tables, at an unknown place. Nothing of such a schema computes, so
-- each lemma opens a few functions of the resolver and rewrites what the premises give (specs/Among.antt).
pub mod Alone
pub mod Apart
pub mod Created
pub mod Creating
pub mod Effects
pub mod Examples
pub mod Listing
pub mod Lists
pub mod Lowering
pub mod Making
pub mod MigratedRows
pub mod MigratedTables
pub mod Others
pub mod Putting
pub mod Querying
pub mod Room
pub mod Selecting
pub mod Standing
pub mod Syntax
pub mod Upserting
pub mod Version
