use Rattle.std.proofs.Common.{◌≡◌, ℕ, List, Some, None, option_map, refl, sym, ap, ◌∙◌, subst}
use Rattle.addr2line_unit.specs.View.{View}
use Rattle.addr2line_unit.specs.FirstAnswers.{SplitLoad}
use Rattle.addr2line_split.specs.SplitLoading.{directory_bytes}
use Rattle.addr2line_split.proofs.SplitCalls.{same_directory, gets_none, gets_named}
use Rattle.addr2line_split.proofs.split_file.load_split.Goals as goal

pub returns-in-Some-clause-file : goal.returns-in-Some-clause-file
returns-in-Some-clause-file g c =
    let answers = g.S.SplitSource.answers in
    let is : c.args.load.now.path ≡ Some c.in-Some.name =
    ap (λ (l : SplitLoad). l.path) (sym c.load.view_is) ∙ ap (option_map (λ (v : View). v)) c.in-Some.is in
    let directory : c.directory_bytes.result.now ≡ directory_bytes c.args.load.now.comp_dir =
    c.directory_bytes.ensures
    ∙ (same_directory c.load.inside.comp_dir ∙ ap (λ (l : SplitLoad). directory_bytes l.comp_dir) c.load.view_is) in
    let called = subst (λ (b : List ℕ). answers c.args.source.now c.directory_bytes.result.now b c.get-answer.result
    c.get-answer.new.self) c.as_bytes.ensures.value c.get-answer.ensures.answer in
    let call = subst (λ (d : List ℕ). answers c.args.source.now d c.in-Some.name.bytes c.get-answer.result
    c.get-answer.new.self) directory called in (
      _,
      gets_named answers c.args.load.now c.in-Some.name _ _ c.get-answer.result is call,
      c.file_of_answer.ensures.file,
    )

pub returns-in-None-clause-file : goal.returns-in-None-clause-file
returns-in-None-clause-file g c =
    let is : c.args.load.now.path ≡ None =
    ap (λ (l : SplitLoad). l.path) (sym c.load.view_is) ∙ ap (option_map (λ (v : View). v)) c.in-None.is in
    (_, gets_none g.S.SplitSource.answers c.args.load.now _ is, refl)

pub returns-in-Some-clause-free : goal.returns-in-Some-clause-free
returns-in-Some-clause-free g c = λ none.
    let is : c.args.load.now.path ≡ Some c.in-Some.name =
    ap (λ (l : SplitLoad). l.path) (sym c.load.view_is) ∙ ap (option_map (λ (v : View). v)) c.in-Some.is in
    let both = sym is ∙ none in absurd cc

pub returns-in-None-clause-free : goal.returns-in-None-clause-free
returns-in-None-clause-free g c = λ none refused. cc
