use Rattle.erasing.proofs.Comparing.{next_laws}
use Rattle.erasing.proofs.goes_on_with.Goals as goal

pub returns : goal.returns
returns c = search next_laws
