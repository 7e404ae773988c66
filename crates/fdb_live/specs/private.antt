pub mod Words
pub mod Rule
pub mod Token
