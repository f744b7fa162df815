-- Why no sections are emitted.
use Rattle.std.specs.Prelude.{ℕ, List, codes}
use Rattle.linemap_emit.specs.declared.error.EmitError.{EmitError}
use Rattle.linemap_emit.specs.declared.error.EmitError.TheVariants.{Memory, TooLarge}

-- the letter and number of a refusal
abbrev pub emit_error_code : EmitError → List ℕ
emit_error_code Memory = codes "M1"
emit_error_code TooLarge = codes "M2"
