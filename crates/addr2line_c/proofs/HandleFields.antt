-- A handle as the machine stores it, and the box of a file as steps of walks take it.
use Rattle.std.proofs.Common.{ℕ, ◌<◌, ◌^◌, w32, [], ◌∷◌, refl}
use seplogic.Ra.Ura.{Ura}
use mir.Syntax.{impl, tnil, dnil}
use mir.Val.{Val, vint, vstruct, vcons, vnil}
use base.Logic.{ent, emp}
use types.Logic.{Logic, sem}
use denote.RattleType.{RattleType}
use denote.RawPtr.{Ptr, ptr_val}
use denote.Shadow.{makes_shadow}
use denote.Struct.Struct.{Struct}
use denote.Struct.Owning.{shape}
use Rattle.std_alloc.proofs.BoxSteps.Form.{Bx}
use Rattle.std_heap.specs.contracts.Global as Heap
use Rattle.std_heap.specs.contracts.GlobalAllocator.TheImpl.{ghosts, dict}
use Rattle.std_heap.proofs.Global.TheLaws as heap
use Rattle.addr2line_c.specs.contracts.open_file.OpenFile as open_file
use Rattle.addr2line_c.proofs.open_file.OpenFile.TheLaws as file_laws
use Rattle.addr2line_c.specs.contracts.box_parts.BoxParts as parts
use Rattle.addr2line_c.specs.contracts.handle.Handle as handle

-- the box of a file, allocated by `Global`
abbrev pub file_box : Bx
file_box = record {
  row = open_file.the_row;
  laws = file_laws.the_row_laws;
  al = record { row = Heap.the_row; laws = heap.the_row_laws; g = ghosts; d = dict; drops = impl [] tnil dnil };
}

abbrev pub BoxParts : RattleType
BoxParts = parts.the_row open_file.the_row Heap.the_row ghosts

-- a handle of this first word and this pointer as the machine stores it
abbrev pub handle_word : ℕ → Ptr → Val
handle_word n p = vstruct (vcons (vint w32 n) (vcons (ptr_val p) vnil))

abbrev pub Stored : RattleType
Stored = Struct (shape handle.the_type)

pub stores : {M : Type 1} {𝓤 : Ura M} (𝓛 : Logic 𝓤) (n : ℕ) (p : Ptr) → n < 2 ^ 32
    → ent 𝓤 (emp 𝓤) (sem 𝓛 (Stored.own_val (n, (p, tt)) (handle_word n p ∷ [])))
stores 𝓛 n p fits =
    makes_shadow 𝓛 (Stored.own_val (n, (p, tt)) (handle_word n p ∷ [])) (λ vss. (tt, ((tt, tt), (tt, tt))))
    ((vint w32 n ∷ [], (ptr_val p ∷ [], tt)), (refl, ((refl, fits), (refl, tt))))
