mod ClientLives
mod Cut
mod Members
mod Names
mod NodeLives
