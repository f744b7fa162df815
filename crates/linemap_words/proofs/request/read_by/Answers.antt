use Rattle.std.proofs.Common.{◌∙◌, sym, ap, subst, inl, inr, List, Option, map, string_bytes}
use Rattle.clap.specs.Words.{HasKind, IsAmong, Kinds, Row, Text, fault_of, is_simple_and_free, kind_of}
use Rattle.clap.specs.declared.error.Error.{Error}
use Rattle.linemap_words.specs.CommandLine.{linemap_app}
use Rattle.linemap_words.specs.WordsRequest.{IsFault, IsRefusal}
use Rattle.linemap_words.specs.declared.request.WordsError.{WordsError}
use Rattle.linemap_words.specs.declared.request.WordsError.TheVariants.{Memory, Fault}
use Rattle.linemap_words.proofs.SimpleCommand.{is_free}
use Rattle.linemap_words.proofs.request.read_by.Goals as goal

-- a fault of the parse is a refusal
fault_refuses : (kinds : Kinds) (matches : Option (Text × List Row)) (e : Error) → HasKind kinds e →
    (error : WordsError)
    → IsFault error (kind_of e) → IsRefusal error kinds matches
fault_refuses kinds matches e has Memory is = tt
fault_refuses kinds matches e has (Fault error) is = elim has [
  | inl memory ↦ absurd (is.1 memory)
  | inr among ↦ inl (subst (λ k. IsAmong k kinds) (sym is.0) among)
]

pub returns-clause-refusal : goal.returns-clause-refusal
returns-clause-refusal c =
    let app = c.requires in
    let words = map string_bytes c.args.words.now in
    let has =
    subst (λ a. HasKind (fault_of a words) c.in-Err.error) app
    (c.in-Err.ensures.kinds (ap is_simple_and_free app ∙ is_free)) in
    fault_refuses (fault_of linemap_app words) _ c.in-Err.error has c.error_of.result c.error_of.ensures
