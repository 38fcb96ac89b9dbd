use Rattle.conversions.proofs.PutLaws.{put_laws}
use Rattle.conversions.proofs.put.Goals as goal

pub returns : goal.returns
returns c = search put_laws
