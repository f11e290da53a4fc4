pub mod Numbers
pub mod Account
pub mod Accounts
pub mod Histories
