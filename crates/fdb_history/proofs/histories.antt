pub mod AfterReport
pub mod HistoryLaws
pub mod KnownCommits
pub mod Minima
