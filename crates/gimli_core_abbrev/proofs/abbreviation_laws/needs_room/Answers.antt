use Rattle.gimli_core_abbrev.proofs.TableRoom.{needs_room}
use Rattle.gimli_core_abbrev.proofs.abbreviation_laws.needs_room.Goals as goal

pub returns : goal.returns
returns c = needs_room
