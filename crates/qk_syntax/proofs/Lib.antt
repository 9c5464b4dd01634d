mod Examples
pub mod WordLaws
pub mod Complete
pub mod FaultsRead
pub mod Least
pub mod Places
pub mod Printed
pub mod PrintedNumbers
pub mod ReadableLaws
pub mod ReadingLaws
pub mod ScanLaws
pub mod StackLaws
pub mod Sound
pub mod TextRead
pub mod TokensScanned
