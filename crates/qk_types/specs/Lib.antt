pub mod Bodies
pub mod DraftView
pub mod Elaboration
pub mod ModelView
