-- Worked examples: the texts of names, by computation.
use Rattle.std.proofs.Common.{◌≡◌, Some, None, refl, codes}
use Rattle.std.proofs.Math.Utf8.{encode}
use Rattle.addr2line_demangle.specs.LegacyElements.{element_text}
use Rattle.addr2line_demangle.specs.LegacyNames.{path_within, rust_text, demangle_or_name}

-- the hash at the end is left out
hash_left_out : rust_text (codes "_ZN4core3fmt5Write9write_fmt17h0123456789abcdefE")
    ≡ Some (codes "core::fmt::Write::write_fmt")
unfolding path_within
hash_left_out = refl

words_replaced : rust_text (codes "_ZN10_$LT$T$GT$3fooE") ≡ Some (codes "<T>::foo")
unfolding path_within encode
words_replaced = refl

dots_replaced : rust_text (codes "_ZN4a..bE") ≡ Some (codes "a::b")
unfolding path_within
dots_replaced = refl

suffix_stays : rust_text (codes "_ZN3foo3barE.cold") ≡ Some (codes "foo::bar.cold")
unfolding path_within
suffix_stays = refl

llvm_suffix_cut : rust_text (codes "ZN3foo3barE.llvm.9D1C@") ≡ Some (codes "foo::bar")
unfolding path_within
llvm_suffix_cut = refl

newer_name_stays : demangle_or_name None (codes "_RNvC3foo") ≡ codes "_RNvC3foo"
newer_name_stays = refl

no_language : demangle_or_name None (codes "_ZN3foo3barE") ≡ codes "foo::bar"
unfolding path_within
no_language = refl

language_of_c : demangle_or_name (Some 2) (codes "_ZN3foo3barE") ≡ codes "_ZN3foo3barE"
language_of_c = refl

-- a length past the name's end, no element, no end, and a suffix without a dot
too_long : rust_text (codes "_ZN9fooE") ≡ None
unfolding path_within
too_long = refl

no_element : rust_text (codes "_ZNE") ≡ None
unfolding path_within
no_element = refl

no_end : rust_text (codes "_ZN3foo") ≡ None
unfolding path_within
no_end = refl

other_suffix : rust_text (codes "_ZN3fooEv") ≡ None
unfolding path_within
other_suffix = refl

-- a control character, a surrogate and a number past U+10FFFF aren't replaced, and all after them
-- stays
control_number_stays : element_text (codes "$u7e$$u1f$.$LT$") ≡ codes "~$u1f$.$LT$"
unfolding encode
control_number_stays = refl

surrogate_stays : element_text (codes "$ud800$..") ≡ codes "$ud800$.."
surrogate_stays = refl

past_last_stays : element_text (codes "$u110000$") ≡ codes "$u110000$"
past_last_stays = refl

-- an odd dollar sign, and three dots
odd_dollar : element_text (codes "a...b$LT..") ≡ codes "a::.b$LT.."
odd_dollar = refl
