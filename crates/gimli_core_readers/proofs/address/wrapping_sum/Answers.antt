-- The mask is the greatest address.
use Rattle.std.proofs.Common.{◌+◌}
use Rattle.gimli_core_readers.proofs.Wrapping.{mask_wraps}
use Rattle.gimli_core_readers.proofs.address.wrapping_sum.Goals as goal

pub returns : goal.returns
returns c = rw c.greatest_address.ensures (mask_wraps c.args.address_size (c.args.address + c.args.length) c.requires)
