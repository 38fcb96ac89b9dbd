-- Which values are live after a line of a schedule: the definitions; what the code keeps beside a table; and cases worked by hand.
pub mod Live
-- apart from this, what the code uses, and worked cases
pub mod Kept
pub mod Worked
