-- What the program itself says of a mistake in a command line.
use Rattle.std.specs.Prelude.{◌≡◌, codes}
use Rattle.linemap_words.specs.declared.request.TheConstants.{LACKS_REQUEST, ALL_AND_SOME}

-- of matches that lack a request, and of matches of `lookup` that ask for all addresses and for
-- some
abbrev pub MistakeTexts : Type 0
MistakeTexts =
    (LACKS_REQUEST.now ≡ codes "no request")
    × (ALL_AND_SOME.now ≡ codes "the argument '--all' cannot be used with '[ADDR]...'")
