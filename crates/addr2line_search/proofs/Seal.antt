-- What a struct owns whose one field is `()`: nothing.
use Rattle.std.proofs.Common.{List, [], ◌∷◌, refl}
use seplogic.Ra.Ura.{Ura}
use mir.Val.{Val, vstruct, vcons, vnil, vunit}
use types.Logic.{Logic}
use types.Kit.{Goal, Step, step, Item, ‵, ◌$◌, move, fjoin, fpack, feq_i}
use denote.RattleType.{RattleType, Valss}
use denote.Builtin.{unit}
use denote.Steps.{nothing}
use denote.Struct.Struct.{Struct, within}

abbrev pub seal_type : RattleType
seal_type = Struct (record { name = []; args = []; types = []; fields = unit ∷ [] })

-- the machine's value of such a struct
abbrev pub seal : Val
seal = vstruct (vcons vunit vnil)

module _ {M : Type 1} {𝓤 : Ura M} {𝓛 : Logic 𝓤} {K : Type 0} {Γ : List (Item 𝓤)} {G : Goal 𝓤 𝓛.H} where
  pub seal_made : K → Step K 𝓛 (‵ (seal_type.own_val (tt, tt) (seal ∷ [])) ∷ Γ) G Γ G
  seal_made t = step (λ s.
      feq_i t (List Val) (vunit ∷ []) (vunit ∷ []) refl $
      nothing t $ move t (1 ∷ 0 ∷ []) $ fjoin t $ feq_i t (List Val) (seal ∷ []) (seal ∷ []) refl $ fjoin t $
      fpack t (Valss (unit ∷ []))
      (within (record { name = []; args = []; types = []; fields = unit ∷ [] }) (tt, tt) (seal ∷ []))
      (vunit ∷ [], tt) $ s)
