-- The addresses in lines that are read and answered one after the other.
use Rattle.std.proofs.Common.{◌≡◌, ◌∙◌, Bool, true, false, List, [], ◌∷◌, ◌++◌, ℕ, Option, Some, None, Result, All, map, inl, refl, sym, ap, subst, append-nil, append_assoc, true≢false}
use Rattle.std.specs.Str.{IsUtf8}
use Rattle.std.specs.Str.Lines.{lines}
use Rattle.std.specs.Io.KnownBytes.{Consumes}
use Rattle.std.proofs.KnownBytes.{Consumes-trans, Consumes-nil}
use Rattle.std.proofs.lemmas.List.{map-append}
use Rattle.std.proofs.lemmas.List.Elements.{All-append, All-cons, All-nil}
use Rattle.addr2line_context.specs.Error.{Error}
use Rattle.addr2line_split.specs.Range.{Range}
use Rattle.linemap_meaning.specs.AnswerTexts.{word_address}
use Rattle.linemap_output.specs.ErrorLine.{EndsOutOfMemory}
use Rattle.linemap_output.specs.declared.ended.Ended.{Ended}
use Rattle.linemap_output.specs.declared.options.Options.{Options}
use Rattle.linemap_lookup.specs.LineReads.{AsksLines, IsWholeInput, ReadsTextLines, Takes, TakesLine, TakesNoLine, YieldsAddress}
use Rattle.linemap_lookup.specs.LookupAnswers.{LookupState}
use Rattle.linemap_lookup.specs.LookupRuns.{AnswersAll, AnswersSome, StopsBefore, Streams, WritesAddress, WritesAddresses, nothing, with_flags}
use Rattle.linemap_lookup.specs.declared.lines.LineBuffer.{LineBuffer}
use Rattle.linemap_lookup.proofs.LineParts.{whole_after}
use Rattle.linemap_lookup.proofs.RunSteps.{stops_after, stops_out_of_memory, writes_more, writes_none}

-- ---- lines

-- these lines are read so far, and what follows is more lines
pub record ReadsSoFar (old now : Option (List ℕ)) (b : LineBuffer) (ls : List (List ℕ)) : Type 0 where
  pub taken : List ℕ
  pub consumes : Consumes old now taken
  pub are_lines : lines taken ≡ ls
  pub are_texts : All IsUtf8 ls
  pub more : b.is_at_end ≡ false → (rest : List ℕ) → lines (taken ++ rest) ≡ ls ++ lines rest
  pub all : b.is_at_end ≡ true → IsWholeInput old taken

pub reads_none : (old : Option (List ℕ)) (b : LineBuffer) → b.is_at_end ≡ false → ReadsSoFar old old b []
reads_none old b is = record {
  taken = [];
  consumes = Consumes-nil old;
  are_lines = refl;
  are_texts = All-nil IsUtf8;
  more = λ _ rest. refl;
  all = λ ends. absurd (true≢false (sym ends ∙ is));
}

pub reads_more : (a b c : Option (List ℕ)) (before after : LineBuffer) (ls : List (List ℕ)) (line : List ℕ)
    → ReadsSoFar a b before ls → TakesLine b c line after.is_at_end → before.is_at_end ≡ false
    → ReadsSoFar a c after (ls ++ line ∷ [])
reads_more a b c before after ls line so_far next unfinished = record {
  taken = so_far.taken ++ next.taken;
  consumes = Consumes-trans a b c so_far.taken next.taken so_far.consumes next.consumes;
  are_lines = so_far.more unfinished next.taken ∙ ap (λ l. ls ++ l) next.is_line;
  are_texts = All-append IsUtf8 ls (line ∷ []) so_far.are_texts (All-cons IsUtf8 line [] next.is_text (All-nil IsUtf8));
  more = λ not rest.
      ap lines (append_assoc so_far.taken next.taken rest) ∙ so_far.more unfinished (next.taken ++ rest)
      ∙ ap (λ l. ls ++ l) (next.first not rest) ∙ sym (append_assoc ls (line ∷ []) (lines rest));
  all = λ ends. whole_after a b so_far.taken next.taken so_far.consumes (next.last ends);
}

-- those that are read, and whatever was read of the next
pub reads_some : (a b c : Option (List ℕ)) (buffer : LineBuffer) (ls : List (List ℕ)) → ReadsSoFar a b buffer ls
    → Takes b c → ReadsTextLines a c ls true
reads_some a b c buffer ls so_far takes = record {
  taken = so_far.taken;
  rest = takes.0;
  consumes = Consumes-trans a b c so_far.taken takes.0 so_far.consumes takes.1;
  are_lines = so_far.are_lines;
  are_texts = so_far.are_texts;
  all = λ no. absurd (true≢false no);
}

whole_then_nothing : (a b : Option (List ℕ)) (buffer : LineBuffer) (ls : List (List ℕ))
    (so_far : ReadsSoFar a b buffer ls) (is_at_end : Bool) → buffer.is_at_end ≡ is_at_end
    → (buffer.is_at_end ≡ false → IsWholeInput b []) → IsWholeInput a so_far.taken
whole_then_nothing a b buffer ls so_far true ends none = so_far.all ends
whole_then_nothing a b buffer ls so_far false unfinished none =
    subst (IsWholeInput a) (append-nil so_far.taken)
    (whole_after a b so_far.taken [] so_far.consumes (none unfinished))

-- all of them
pub reads_all : (a b c : Option (List ℕ)) (before after : LineBuffer) (ls : List (List ℕ)) → ReadsSoFar a b before ls
    → TakesNoLine b c before after → ReadsTextLines a c ls after.has_failed
reads_all a b c before after ls so_far none = record {
  taken = so_far.taken;
  rest = none.rest;
  consumes = Consumes-trans a b c so_far.taken none.rest so_far.consumes none.consumes;
  are_lines = so_far.are_lines;
  are_texts = so_far.are_texts;
  all = λ clear. whole_then_nothing a b before ls so_far before.is_at_end refl (none.none clear).1;
}

-- ---- answers

module _ {S : Type 0} (answers : S → List ℕ → List ℕ → Result (Option (List ℕ)) Error → S → Type 0)
    (o : Options) (section : Option Range) where
  -- the lines that are read so far are answered
  pub record AnswersSoFar (a b : Option (List ℕ)) (buffer : LineBuffer) (s t : LookupState S) (old now : Streams)
      (e f : Ended) : Type 0 where
    pub ls : List (List ℕ)
    pub reads : ReadsSoFar a b buffer ls
    pub writes : WritesAddresses answers o section (map word_address ls) s t old now e f

with_line : (ls : List (List ℕ)) (line : List ℕ) (address : Option ℕ) → address ≡ word_address line
    → map word_address ls ++ address ∷ [] ≡ map word_address (ls ++ line ∷ [])
with_line ls line address is =
    ap (λ x. map word_address ls ++ x ∷ []) is ∙ sym (map-append word_address ls (line ∷ []))

module _ {S : Type 0} {answers : S → List ℕ → List ℕ → Result (Option (List ℕ)) Error → S → Type 0} {o : Options}
    {section : Option Range} where
  pub lines_none : {a : Option (List ℕ)} {buffer : LineBuffer} {s : LookupState S} {streams : Streams} {e : Ended}
      → buffer.is_at_end ≡ false → AnswersSoFar answers o section a a buffer s s streams streams e e
  lines_none {a} {buffer} is = record { ls = []; reads = reads_none a buffer is; writes = writes_none }

  -- the program stops before the next line, out of memory
  pub lines_out_of_memory : {a b c : Option (List ℕ)} {buffer : LineBuffer} {s t : LookupState S} {old mid : Streams}
      {err : Option (List ℕ)} {e f stop : Ended} → AnswersSoFar answers o section a b buffer s t old mid e f
      → Takes b c → (last : Ended) × EndsOutOfMemory mid.err err last × (stop ≡ with_flags f last)
      → AnswersSome answers o section (AsksLines a c) s old (record mid { err = err }) e stop
  lines_out_of_memory {a} {b} {c} {buffer} {t} {mid} {f} so_far takes ends = record {
    addresses = map word_address so_far.ls;
    is_cut = true;
    are_asked = (so_far.ls, reads_some a b c buffer so_far.ls so_far.reads takes, refl);
    stops = record {
      first = map word_address so_far.ls;
      rest = [];
      are_addresses = sym (append-nil (map word_address so_far.ls));
      state = t;
      streams = mid;
      ended = f;
      written = so_far.writes;
      stops = record {
        partial = nothing;
        is_answer = inl refl;
        stops = rw (ends.2) (stops_out_of_memory ends.1);
      };
    };
  }

module _ {S : Type 0} {answers : S → List ℕ → List ℕ → Result (Option (List ℕ)) Error → S → Type 0} {o : Options}
    {section : Option Range} {a b c : Option (List ℕ)} {before : LineBuffer} (after : LineBuffer)
    {s t : LookupState S} {old mid : Streams} {same : Option (List ℕ)} {e f : Ended} {next : Option (Option ℕ)}
    (so_far : AnswersSoFar answers o section a b before s t old mid e f) (kept : same ≡ mid.err)
    (yields : YieldsAddress b c before after next) where
  -- the next line is answered, on the same error stream
  pub lines_more : {address : Option ℕ} {u : LookupState S} {new : Streams} {g : Ended} → next ≡ Some address
      → WritesAddress answers o section address t u (record mid { err = same }) new f g
      → AnswersSoFar answers o section a c after s u old new e g
  lines_more {address} {u} {new} {g} is writes =
      let line = subst (YieldsAddress b c before after) is yields in
      record {
        ls = so_far.ls ++ line.0 ∷ [];
        reads = reads_more a b c before after so_far.ls line.0 so_far.reads line.1 line.3;
        writes =
            rw (sym (with_line so_far.ls line.0 address line.2))
            (writes_more so_far.writes
            (subst (λ (x : Option (List ℕ)).
            WritesAddress answers o section address t u (record mid { err = x }) new f g) kept writes));
      }

  -- or the program stops at it
  pub lines_stop : {address : Option ℕ} {new : Streams} {stop : Ended} → next ≡ Some address
      → StopsBefore answers o section (address ∷ []) t (record mid { err = same }) new f stop
      → AnswersSome answers o section (AsksLines a c) s old new e stop
  lines_stop {address} {new} {stop} is stops =
      let line = subst (YieldsAddress b c before after) is yields in
      let reads = reads_more a b c before after so_far.ls line.0 so_far.reads line.1 line.3 in
      record {
        addresses = map word_address (so_far.ls ++ line.0 ∷ []);
        is_cut = true;
        are_asked = (so_far.ls ++ line.0 ∷ [], reads_some a c c after _ reads ([], Consumes-nil c), refl);
        stops =
            stops_after [] (sym (with_line so_far.ls line.0 address line.2)) so_far.writes
            (subst (λ (x : Option (List ℕ)).
            StopsBefore answers o section (address ∷ []) t (record mid { err = x }) new f stop) kept stops);
      }

  -- or there is none, and all are answered
  pub lines_end : next ≡ None
      → AnswersAll answers o section (AsksLines a c) s old (record mid { err = same }) e
      (record f { read = after.has_failed })
  lines_end is = record {
    addresses = map word_address so_far.ls;
    are_asked = (
      so_far.ls,
      reads_all a b c before after so_far.ls so_far.reads (subst (YieldsAddress b c before after) is yields),
      refl,
    );
    after = t;
    noted = f;
    writes =
        subst
        (λ (x : Option (List ℕ)).
        WritesAddresses answers o section (map word_address so_far.ls) s t old (record mid { err = x }) e f)
        (sym kept) so_far.writes;
    end = refl;
  }
