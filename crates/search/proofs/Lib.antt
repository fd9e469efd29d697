pub mod Worth
pub mod Soundness
pub mod BareSearch
pub mod Thrift
pub mod Sessions
pub mod Ending
pub mod SetsByKey
