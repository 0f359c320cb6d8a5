pub mod Grammar
pub mod Lines
pub mod Line
pub mod KeyFile
pub mod Index
pub mod Draft
