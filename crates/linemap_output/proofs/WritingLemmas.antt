-- Texts written one after the other, whole or in part.
use Rattle.std.proofs.Common.{◌≡◌, ◌∙◌, ℕ, List, [], ◌++◌, Option, None, Some, length, take, min, ◌+◌, ◌≤◌, refl, sym, ap, subst, arith, append_assoc}
use Rattle.std.proofs.lemmas.List.{append-nil, take_min, take-append-le}
use Rattle.std.proofs.Math.Seq.{take-append-add, take-length}
use Rattle.std.specs.Io.KnownBytes.{Appends, Keeps}
use Rattle.linemap_output.specs.WriterBytes.{AppendsPrefix}

-- one text after the other is the two appended
pub appends_more : (a b c : Option (List ℕ)) (xs ys : List ℕ) → Appends a b xs → Appends b c ys → Appends a c (xs ++ ys)
appends_more None b c xs ys p q = tt
appends_more (Some a) None c xs ys p q = absurd p
appends_more (Some a) (Some b) None xs ys p q = absurd q
appends_more (Some a) (Some b) (Some c) xs ys p q = q ∙ ap (λ bs. bs ++ ys) p ∙ append_assoc a xs ys

-- unchanged bytes have grown by nothing
pub appends_nothing : (a b : Option (List ℕ)) → Keeps a b → Appends a b []
appends_nothing None b k = tt
appends_nothing (Some a) None k = absurd k
appends_nothing (Some a) (Some b) k = k ∙ sym (append-nil a)

pub keeps_same : (a : Option (List ℕ)) → Keeps a a
keeps_same None = tt
keeps_same (Some a) = refl

-- a text, and then no change
pub appends_then_keeps : (a b c : Option (List ℕ)) (xs : List ℕ) → Appends a b xs → Keeps b c → Appends a c xs
appends_then_keeps None b c xs p k = tt
appends_then_keeps (Some a) None c xs p k = absurd p
appends_then_keeps (Some a) (Some b) None xs p k = absurd k
appends_then_keeps (Some a) (Some b) (Some c) xs p k = k ∙ p

-- the text is its own prefix
pub prefix_whole : (a b : Option (List ℕ)) (xs : List ℕ) → Appends a b xs → AppendsPrefix a b xs
prefix_whole a b xs p = record { count = length xs; appends = rw (take-length xs) p }

-- so is nothing
pub prefix_none : (a b : Option (List ℕ)) (xs : List ℕ) → Keeps a b → AppendsPrefix a b xs
prefix_none a b xs k = record { count = 0; appends = appends_nothing a b k }

-- a prefix of a text is a prefix of what begins with the text
pub prefix_longer : (a b : Option (List ℕ)) (xs ys : List ℕ) → AppendsPrefix a b xs → AppendsPrefix a b (xs ++ ys)
prefix_longer a b xs ys f =
    let low : min f.count (length xs) ≤ length xs = omega arith in
    let same : take (min f.count (length xs)) (xs ++ ys) ≡ take f.count xs =
    take-append-le (min f.count (length xs)) xs ys low ∙ take_min f.count xs in
    record { count = min f.count (length xs); appends = rw same f.appends }

-- a whole text, and then a prefix of the next one
pub prefix_after : (a b c : Option (List ℕ)) (xs ys : List ℕ) → Appends a b xs → AppendsPrefix b c ys
    → AppendsPrefix a c (xs ++ ys)
prefix_after a b c xs ys p f = record {
  count = length xs + f.count;
  appends = rw (take-append-add xs ys f.count) (appends_more a b c xs (take f.count ys) p f.appends);
}

-- all of a text but the rest
pub prefix_before : (a b : Option (List ℕ)) (prefix rest text : List ℕ) → Appends a b prefix → prefix ++ rest ≡ text
    → AppendsPrefix a b text
prefix_before a b prefix rest text p e =
    subst (AppendsPrefix a b) e (prefix_longer a b prefix rest (prefix_whole a b prefix p))
