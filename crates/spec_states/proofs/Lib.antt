pub mod MaskLaws
pub mod CopyLaws
pub mod RowLaws
