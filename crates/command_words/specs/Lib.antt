pub mod Arguments
pub mod Beginning
pub mod Found
pub mod Numbers
pub mod CommandLines
