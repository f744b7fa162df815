use Rattle.gimli_lines_header.proofs.UsualEntries.{usual_file, usual_file_with_digest}
use Rattle.gimli_lines_header.proofs.usual_entries.read_file.Goals as goal

pub returns-in_ok-directory-in-PathAndDirectory : goal.returns-in_ok-directory-in-PathAndDirectory
returns-in_ok-directory-in-PathAndDirectory g c =
    rw c.in-PathAndDirectory.is
    (usual_file _ _ _ _ _ _ _ _ _ _ c.in_ok-path-in-PathAndDirectory.ensures
    c.in_ok-directory-in-PathAndDirectory.ensures c.in_directory.ensures)

pub returns-in_ok-digest-in-PathDirectoryAndDigest : goal.returns-in_ok-digest-in-PathDirectoryAndDigest
returns-in_ok-digest-in-PathDirectoryAndDigest g c =
    rw c.in-PathDirectoryAndDigest.is
    (usual_file_with_digest _ _ _ _ _ _ _ _ _ _ _ _ _ c.in_ok-path-in-PathDirectoryAndDigest.ensures
    c.in_ok-directory-in-PathDirectoryAndDigest.ensures c.in_ok-digest-in-PathDirectoryAndDigest.ensures
    c.in_directory-in-PathDirectoryAndDigest.ensures)
