-- Readers are equal by their bytes and the order.
use Rattle.gimli_core_readers.proofs.EqualReaders.{same_decides, same_hashed}
use Rattle.gimli_core_readers.proofs.laws.equal_readers.Goals as goal

pub returns-clause-equal : goal.returns-clause-equal
returns-clause-equal c = same_decides

pub returns-clause-hashed_alike : goal.returns-clause-hashed_alike
returns-clause-hashed_alike c = same_hashed
