mod Worked
pub mod SaturatedLaws
pub mod CountLaws
pub mod CrossLaws
pub mod FormLaws
pub mod MemberLaws
pub mod NumberLaws
pub mod PartLaws
pub mod WithinLaws
