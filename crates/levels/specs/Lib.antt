-- What the search for a level comes to at each.
pub mod Tried
