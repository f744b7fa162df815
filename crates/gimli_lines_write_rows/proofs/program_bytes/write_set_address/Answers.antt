use Rattle.std.proofs.Common.{◌≡◌, [], ◌∷◌, ◌+◌}
use Rattle.gimli_lines_write_bytes.specs.NumberBytes.{address_bytes}
use Rattle.gimli_lines_write_bytes.specs.OutputBytes.{append}
use Rattle.gimli_lines_write_rows.proofs.JoinedWrites.{then_writes}
use Rattle.gimli_lines_write_rows.proofs.program_bytes.write_set_address.Goals as goal

pub returns : goal.returns
returns g c =
    let first : append (0 ∷ (1 + c.args.size) ∷ 2 ∷ []) (g.W.Writer.contents c.args.w.now)
    ≡ g.W.Writer.contents c.write.new.self = cc (c.in_ok-write.ensures) in
    then_writes c.write_address.result (g.W.Writer.contents c.args.w.now) (g.W.Writer.contents c.write.new.self)
    (g.W.Writer.contents c.write_address.new.self)
    (0 ∷ (1 + c.args.size) ∷ 2 ∷ []) (λ b. address_bytes b c.args.size (g.W.Writer.address_of c.args.address)) first
    c.write_address.ensures
