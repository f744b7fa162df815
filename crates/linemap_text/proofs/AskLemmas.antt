-- The answers to the words so far, and to one word more; the flags of an end.
use Rattle.std.proofs.Common.{◌≡◌, ◌∙◌, Bool, inl, inr, ℕ, ◌+◌, ◌<◌, List, [], ◌∷◌, ◌++◌, Option, length, take, drop, get_or, map, Global, String, string_bytes, true, false, sym, ap, subst}
use Rattle.std.specs.List.{flat_map}
use Rattle.std.proofs.lemmas.List.{append-nil, map-append, take_more, take-append-drop}
use Rattle.std.proofs.lemmas.Grind.{flat_map-append}
use Rattle.addr2line_context.specs.Contexts.{Context}
use Rattle.linemap_text.specs.WordTexts.{word_text, words_text}
use Rattle.linemap_output.specs.WriterBytes.{AppendsPrefix}
use Rattle.linemap_output.proofs.WritingLemmas.{appends_more, prefix_after, prefix_longer}
use Rattle.linemap_output.specs.ErrorLine.{Fails}
use Rattle.linemap_output.specs.declared.ended.Ended.{Ended}
use Rattle.linemap_output.specs.declared.writing.WriteFault.TheVariants.{BrokenPipe, Failed}
use Rattle.linemap_output.specs.Outcome.{Outcome}
use Rattle.linemap_text.specs.Ask.{FlagsMean, StopsAt, Reports}
use Rattle.linemap_text.specs.declared.stops.Stop.{Stop}
use Rattle.linemap_text.specs.declared.stops.Stop.TheVariants.{Memory, Table, TooLarge, Output}
use Rattle.std.specs.Io.KnownBytes.{Appends}

module _ (places : Context) (ws : List (String Global)) where
  -- the answers to the first k words
  abbrev pub answers_to : ℕ → List ℕ
  answers_to k = words_text places (map string_bytes (take k ws))

  -- what answers a word
  abbrev pub answer_to : String Global → List ℕ
  answer_to w = word_text places (string_bytes w) ++ 10 ∷ []

  pub answers-more : (i : ℕ) (w : String Global) → i < length ws → w ≡ get_or ws i w
      → answers_to (i + 1) ≡ answers_to i ++ answer_to w
  answers-more i w lt at =
      let answer : List ℕ → List ℕ = λ t. word_text places t ++ 10 ∷ [] in
      let more : take (i + 1) ws ≡ take i ws ++ w ∷ [] = take_more ws i w lt ∙ ap (λ v. take i ws ++ v ∷ []) (sym at) in
      ap (λ vs. words_text places (map string_bytes vs)) more
      ∙ ap (flat_map answer) (map-append string_bytes (take i ws) (w ∷ []))
      ∙ flat_map-append answer (map string_bytes (take i ws)) (string_bytes w ∷ [])
      ∙ ap (λ t. answers_to i ++ t) (append-nil (answer_to w))

  pub answers-parts : (k : ℕ) → answers_to k ++ words_text places (map string_bytes (drop k ws))
      ≡ words_text places (map string_bytes ws)
  answers-parts k =
      let answer : List ℕ → List ℕ = λ t. word_text places t ++ 10 ∷ [] in
      sym (flat_map-append answer (map string_bytes (take k ws)) (map string_bytes (drop k ws)))
      ∙ ap (flat_map answer)
      (sym (map-append string_bytes (take k ws) (drop k ws)) ∙ ap (map string_bytes) (take-append-drop k ws))

  -- the answers so far, and the next one
  pub appends_at_word : (a b c : Option (List ℕ)) (i : ℕ) (w : String Global) (line : List ℕ) → i < length ws
      → w ≡ get_or ws i w → line ≡ answer_to w
      → Appends a b (answers_to i) → Appends b c line → Appends a c (answers_to (i + 1))
  appends_at_word a b c i w line lt at is p q =
      subst (Appends a c) (ap (λ t. answers_to i ++ t) is ∙ sym (answers-more i w lt at))
      (appends_more a b c (answers_to i) line p q)

  -- a prefix of the answers to the first words is one of all answers
  pub prefix_of_answers : (a b : Option (List ℕ)) (k : ℕ) → AppendsPrefix a b (answers_to k)
      → AppendsPrefix a b (words_text places (map string_bytes ws))
  prefix_of_answers a b k f = subst (AppendsPrefix a b) (answers-parts k) (prefix_longer a b (answers_to k) _ f)

  -- the answers so far, and a prefix of the next one
  pub prefix_at_word : (a b c : Option (List ℕ)) (i : ℕ) (w : String Global) (line : List ℕ) → i < length ws
      → w ≡ get_or ws i w → line ≡ answer_to w
      → Appends a b (answers_to i) → AppendsPrefix b c line
      → AppendsPrefix a c (words_text places (map string_bytes ws))
  prefix_at_word a b c i w line lt at is p f =
      prefix_of_answers a c (i + 1)
      (subst (AppendsPrefix a c) (ap (λ t. answers_to i ++ t) is ∙ sym (answers-more i w lt at))
      (prefix_after a b c (answers_to i) line p f))

-- an end without flags
pub flags_of_none : (p : Outcome) (old new : Option (List ℕ)) (e : Ended)
    → e ≡ record { status = 0; memory = false; read = false; write = false } → FlagsMean p old new e
flags_of_none p old new e is = record {
  memory = λ set. absurd (let no : true ≡ false = sym set ∙ ap (λ (x : Ended). x.memory) is in cc);
  write = λ _ set. absurd (let no : true ≡ false = sym set ∙ ap (λ (x : Ended). x.write) is in cc);
  read = ap (λ (x : Ended). x.read) is;
}

both_set : (b : Bool) → b ≡ true → b ≡ false → ⊥
both_set true set clear = let no : true ≡ false = clear in cc
both_set false set clear = let no : true ≡ false = sym set in cc

-- the flags that a stop sets
pub flags_of_stop : (p : Outcome) (stop : Stop) (old new : Option (List ℕ)) (e : Ended) → StopsAt p stop
    → Reports stop old new e → FlagsMean p old new e
flags_of_stop p (Memory what) old new e at ends = record {
  memory = λ _. (what, at, ends.0);
  write = λ clear _. absurd (both_set e.memory ends.1 clear);
  read = ends.0.read;
}
flags_of_stop p (Table error) old new e at ends = record {
  memory = λ set. absurd (both_set e.memory set ends.1);
  write =
      λ _ _. inl (
        ap (λ (q : Outcome). q.status) at,
        subst (λ (q : Outcome). Fails q.err old new e) (sym at) ends.0,
      );
  read = ends.0.read;
}
flags_of_stop p TooLarge old new e at ends = record {
  memory = λ set. absurd (both_set e.memory set ends.1);
  write =
      λ _ _. inl (
        ap (λ (q : Outcome). q.status) at,
        subst (λ (q : Outcome). Fails q.err old new e) (sym at) ends.0,
      );
  read = ends.0.read;
}
flags_of_stop p (Output Failed) old new e at ends = record {
  memory = λ set. absurd (both_set e.memory set ends.1);
  write = λ _ _. inr (at, (Failed, ends));
  read = ends.0.read;
}
flags_of_stop p (Output BrokenPipe) old new e at ends = record {
  memory = λ set. absurd (both_set e.memory set (ap (λ (x : Ended). x.memory) ends.1));
  write = λ _ _. inr (at, (BrokenPipe, ends));
  read = ap (λ (x : Ended). x.read) ends.1;
}
