use Rattle.erasing.proofs.Walking.{line_laws}
use Rattle.erasing.proofs.erase_line.Goals as goal

pub first_of-a-requires : goal.first_of-a-requires
first_of-a-requires c = search line_laws

pub bounds-origins-a : goal.bounds-origins-a
bounds-origins-a c = search line_laws

pub bounds-origins-b : goal.bounds-origins-b
bounds-origins-b c = search line_laws
