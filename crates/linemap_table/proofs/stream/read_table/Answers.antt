use Rattle.std.proofs.Common.{◌≡◌, ◌-◌, ◌∷◌, length, codes, Some, None, ap, ◌∙◌, arith}
use Rattle.json.specs.Token.{Token}
use Rattle.json.specs.Json.{parse_map, read_key, members, value}
use Rattle.json.proofs.Grammar.{value-begin_object, read_key-shorter}
use Rattle.serde_json.specs.Data.{object, no_members, put}
use Rattle.serde_json.specs.Read.{of_json, converted}
use Rattle.linemap_table.proofs.JsonReading.{converted-object, member_read, members_over}
use Rattle.linemap_table.proofs.stream.read_table.Goals as goal

pub returns-in-None : goal.returns-in-None
returns-in-None c =
    let p = value (c.args.depth - 1) in
    let s = c.next.new.self in
    let t = c.expect_key.new.reader in
    let u = c.read_list.new.reader in
    let r = c.next_key.new.self in
    let read = c.in_ok-units.ensures in
    let d = read.parts.0 in
    let k = codes "units" in
    let first : c.args.reader.now ≡ Token.begin_object ∷ s = grind arith in
    let named : read_key s ≡ Some (Some k, t) = c.in_ok-expect_key.ensures in
    let ended : read_key u ≡ Some (None, r) = grind arith in
    let less = read_key-shorter s (Some k) t named in
    let lesser = read.shorter in
    let opened =
    ap (converted of_json) (ap (value c.args.depth) first ∙ value-begin_object c.args.depth s (omega arith))
    ∙ converted-object (members p (length s) s) in
    let turn = member_read p no_members (length s) k s t u d (omega arith) named read.parts.1 in
    let over = members_over p (put k d no_members) (length s - 1) u r (omega arith) ended in
    (object (put k d no_members), opened ∙ ap (parse_map object) (turn ∙ over), read.parts.2)
