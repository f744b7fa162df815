use Rattle.linemap_lookup_laws.proofs.TableRuns.{printed}
use Rattle.linemap_lookup_laws.proofs.table_text_laws.table_printed.Goals as goal

pub returns : goal.returns
returns g c = λ image us file o section source input_old input_new is_cut p.
    printed o image us file g.S.SplitSource.answers section source input_old input_new is_cut p
