use Rattle.linemap_places_laws.proofs.TableLocations.{locations_meet as meet}
use Rattle.linemap_places_laws.proofs.location_laws.locations_meet.Goals as goal

pub returns : goal.returns
returns g c = λ ranges lines us xs a sound agrees. meet ranges lines us xs a sound agrees
