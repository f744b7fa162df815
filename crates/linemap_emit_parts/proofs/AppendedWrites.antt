-- What several writes one after the other append.
use Rattle.std.proofs.Common.{◌≡◌, ℕ, List, [], ◌∷◌, ◌++◌, Result, Ok, Err, true, false, ap, subst, ◌∙◌, append_assoc, append-nil}
use Rattle.gimli_lines_write_bytes.specs.Encoding.{Encoding}
use Rattle.gimli_lines_write_bytes.specs.TheConstants.{DW_TAG_compile_unit, DW_TAG_inlined_subroutine, DW_TAG_subprogram}
use Rattle.gimli_lines_write_bytes.specs.declared.error.Error.{Error}
use Rattle.gimli_lines_write_bytes.specs.OutputBytes.{WriterContents, append}
use Rattle.linemap_emit_parts.specs.WriteResults.{Appends}
use Rattle.linemap_emit_parts.specs.declared.entries.Entry.TheVariants.{CompileUnit, AbstractFunction, Function, Call}
use Rattle.linemap_emit_parts.specs.EmittedEntries.{declaration_for, spelled_declaration, spelled_declarations}

-- bytes, and then those of a write that may be refused
pub after_append : {A : Type 0} (r : Result A Error) (w0 w1 w2 : WriterContents) (xs ys : List ℕ) → w1 ≡ append xs w0
    → Appends r w1 w2 ys → Appends r w0 w2 (xs ++ ys)
after_append (Err e) w0 w1 w2 xs ys h k = k
after_append (Ok x) w0 w1 w2 xs ys h k =
    k ∙ ap (append ys) h
    ∙ ap (λ (bytes : List ℕ). record { bytes = bytes; is_big = w0.is_big }) (append_assoc w0.bytes xs ys)

-- the parts of the table of declarations
pub whole_table : {A : Type 0} (r : Result A Error) (e : Encoding) (w0 w1 w2 w3 w4 w5 : WriterContents)
    → w1 ≡ append (spelled_declaration (declaration_for e DW_TAG_compile_unit.0 true (CompileUnit 0 0 0 0))) w0
    → w2 ≡ append (spelled_declaration (declaration_for e DW_TAG_subprogram.0 true (Function true 0 0))
    ++ spelled_declaration (declaration_for e DW_TAG_subprogram.0 false (Function false 0 0))) w1
    → w3 ≡ append (spelled_declaration (declaration_for e DW_TAG_inlined_subroutine.0 true (Call true 0 0 0 0 0))
    ++ spelled_declaration (declaration_for e DW_TAG_inlined_subroutine.0 false (Call false 0 0 0 0 0))) w2
    → w4 ≡ append (spelled_declaration (declaration_for e DW_TAG_subprogram.0 false (AbstractFunction 0))) w3
    → Appends r w4 w5 (0 ∷ []) → Appends r w0 w5 (spelled_declarations e)
whole_table r e w0 w1 w2 w3 w4 w5 unit functions calls abstract_function end =
    let a = spelled_declaration (declaration_for e DW_TAG_compile_unit.0 true (CompileUnit 0 0 0 0)) in
    let b = spelled_declaration (declaration_for e DW_TAG_subprogram.0 true (Function true 0 0)) in
    let b1 = spelled_declaration (declaration_for e DW_TAG_subprogram.0 false (Function false 0 0)) in
    let c = spelled_declaration (declaration_for e DW_TAG_inlined_subroutine.0 true (Call true 0 0 0 0 0)) in
    let c1 = spelled_declaration (declaration_for e DW_TAG_inlined_subroutine.0 false (Call false 0 0 0 0 0)) in
    let d = spelled_declaration (declaration_for e DW_TAG_subprogram.0 false (AbstractFunction 0)) in
    subst (λ (bytes : List ℕ). Appends r w0 w5 bytes) (regroup a b b1 c c1 d (0 ∷ []))
    (after_append r w0 w1 w5 a ((b ++ b1) ++ ((c ++ c1) ++ (d ++ 0 ∷ []))) unit
    (after_append r w1 w2 w5 (b ++ b1) ((c ++ c1) ++ (d ++ 0 ∷ [])) functions
    (after_append r w2 w3 w5 (c ++ c1) (d ++ 0 ∷ []) calls
    (after_append r w3 w4 w5 d (0 ∷ []) abstract_function end))))
  where
    regroup : (a b b1 c c1 d z : List ℕ)
        → a ++ ((b ++ b1) ++ ((c ++ c1) ++ (d ++ z))) ≡ (a ++ (b ++ (b1 ++ (c ++ (c1 ++ (d ++ [])))))) ++ z
    regroup a b b1 c c1 d z = simp (append_assoc, append-nil)
