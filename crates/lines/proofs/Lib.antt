pub mod LineLaws
mod LevelLaws
mod HeldLaws
mod AskedLaws
mod ReadLaws
