pub mod Homes
pub mod NamesBy
pub mod Meant
mod Empty
mod Asking
mod Fetching
mod Places
mod Lending
