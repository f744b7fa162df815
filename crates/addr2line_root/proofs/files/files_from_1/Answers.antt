use Rattle.addr2line_root.proofs.FileTextLemmas.{from_1_older, from_1_newer}
use Rattle.addr2line_root.proofs.files.files_from_1.Goals as goal

pub returns-then-version-le4 : goal.returns-then-version-le4
returns-then-version-le4 g c =
    from_1_older c.args.header.now c.file_names-files.result.now c.version.result c.file_names-files.ensures
    c.version.ensures.value c.if-version-le4.true

pub returns-in-len1-up : goal.returns-in-len1-up
returns-in-len1-up g c =
    from_1_newer c.args.header.now c.file_names-files.result.now c.version.result c.file_names-files.ensures
    c.version.ensures.value c.if-version-le4.false
