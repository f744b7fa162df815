-- What a reader's calls mean, beside what is read.
use Rattle.std.specs.Prelude.{◌≡◌, ℕ, ◌+◌, ◌<◌, ◌≤◌, ◌^◌, nat_eq, Bool, ◌&&◌, List, ◌++◌, length, Result, Ok, Err, if◌then◌else◌}
use Rattle.std.specs.Str.{is_utf8}
use Rattle.std.specs.declared.borrow.CowStr.{CowStr}
use Rattle.std.specs.declared.borrow.CowStr.TheVariants.{Borrowed, Owned}
use Rattle.std.specs.Cmp.{IsEquivalence, on_equiv, and_equiv, bool_eq_equiv, booleans_Decides}
use Rattle.std.specs.Cmp.Lexicographic.{pointwise, nat_list_eq_equiv, bytes_decides}
use Rattle.std.specs.Hash as fed
use Rattle.std.proofs.Math.Bool.{beq}
use Rattle.gimli_core_base.specs.declared.error.Error.{Error}
use Rattle.gimli_core_base.specs.declared.error.Error.TheVariants.{BadUtf8}
use Rattle.gimli_core_base.specs.View.{View}

-- The bytes are few enough for a slice, for offsets below the limit, and for identifiers of 64
-- bits, the end's included.
pub record IsIndexable (limit : ℕ) (v : View) : Type 0 where
  pub length_fits : length v.bytes < 2 ^ 63
  pub offsets_fit : length v.bytes < limit
  pub identifiers_fit : v.first + length v.bytes < 2 ^ 64

-- the bytes of v are among those of base, by their identifiers
abbrev pub Holds : View → View → Type 0
Holds base v =
    (base.first ≤ v.first) × (v.first + length v.bytes ≤ base.first + length base.bytes)

-- the bytes as a text, where they are UTF-8
abbrev pub utf8_of : List ℕ → Result (List ℕ) Error
utf8_of bytes = if is_utf8 bytes then Ok bytes else Err BadUtf8

-- the bytes themselves as a text, lent
abbrev pub LendsText : {A : Type 0} → List ℕ → Result (CowStr A) Error → Type 0
LendsText bytes (Ok (Borrowed text)) = text.now ≡ bytes
LendsText bytes (Ok (Owned text)) = ⊥
LendsText bytes (Err e) = ⊥

-- ---- readers compared

-- Readers are equal where their bytes and the order are, whatever the identifiers.
abbrev pub is_same : View → View → Bool
is_same a b = pointwise nat_eq a.bytes b.bytes && beq a.is_big b.is_big

pub same_laws : IsEquivalence is_same
same_laws =
    and_equiv (on_equiv (λ (v : View). v.bytes) nat_list_eq_equiv)
    (on_equiv (λ (v : View). v.is_big) bool_eq_equiv)

-- what is hashed of a reader
abbrev pub hash_bytes : View → List (List ℕ)
hash_bytes v = fed.slice fed.u8 v.bytes ++ fed.bool v.is_big

-- equal readers are hashed alike
pub equal_hash_alike : fed.Alike is_same hash_bytes
equal_hash_alike =
    fed.and-Alike (fed.on_Alike (λ (v : View). v.bytes)
    (fed.same_Alike (fed.slice fed.u8) bytes_decides))
    (fed.on_Alike (λ (v : View). v.is_big) (fed.same_Alike fed.bool booleans_Decides))
