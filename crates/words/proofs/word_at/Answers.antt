use Rattle.words.proofs.WordLaws.{found_laws}
use Rattle.words.proofs.word_at.Goals as goal

pub returns-then-is_downscale : goal.returns-then-is_downscale
returns-then-is_downscale c = search found_laws

pub returns : goal.returns
returns c = search found_laws
