pub mod ChainLaws
pub mod AnswerLaws
pub mod Answering
pub mod KeptReplies
pub mod SameIssued
pub mod Own
pub mod Marks
