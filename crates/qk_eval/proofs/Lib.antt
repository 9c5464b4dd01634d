pub mod AnswerLaws
pub mod ListLaws
pub mod MeaningLaws
pub mod RowLaws
pub mod SharedLaws
pub mod UnitsLaws
pub mod WorkLaws
