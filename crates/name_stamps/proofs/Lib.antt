pub mod CheckKept
pub mod PlainStamps
pub mod NamesApart
