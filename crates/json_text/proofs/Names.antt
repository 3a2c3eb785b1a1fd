-- The names that the proofs of the reader take most often: those of std, and those of what a text is.
pub use Rattle.std.proofs.Common.{arith, ◌≡◌, ◌∙◌, sym, length, ap, ◌+◌, ℕ, ◌<◌, List, subst, refl, ◌≤◌, get_or, ◌∷◌, [], ◌-◌, false, drop, ◌++◌}
pub use Rattle.std.proofs.Common.{true, suc, inl, inr, Bool, Some, take, None, zero, ◌≢◌, append_assoc, cond, length-append, map, ◌^◌, Option, ◌⊎◌}
pub use Rattle.std.proofs.Common.{◌*◌, not, ◌||◌, rules, ◌%◌, ltb, leb, ◌/◌, IsTrue, bit_or, replicate, reverse, ◌&&◌, add-one, max, slice_index_or}
pub use Rattle.std.proofs.lemmas.Bool.{cases_lt, cases_Bool, or_parts, false≢true}
pub use Rattle.std.proofs.lemmas.Bool.Decides.{nat_tests}
pub use Rattle.std.proofs.lemmas.Grind.{common_steps}
pub use Rattle.std.proofs.lemmas.List.{append-nil, drop_more, get_or_default, length-drop, take_at, get_or-drop, take_all, get_or-take, length-map}
pub use Rattle.std.proofs.lemmas.List.{take-append-drop, drop_all, get_or-map, length-take-le, drop_at, get_or_at, get_or_past, length-take}
pub use Rattle.std.proofs.lemmas.List.Elements.{All-from_recursion, recursion_from_All}
pub use Rattle.std.proofs.lemmas.List.Sorted.{All-permutation}
pub use Rattle.std.proofs.lemmas.Simd.{get_or-chunk, length-chunk}
pub use Rattle.std.proofs.lemmas.Str.{len_utf8_bounds, length-encode, IsCharBoundary-after_ascii, chars-append, chars-nil, encodes-chars}
pub use Rattle.std.specs.Cmp.Lexicographic.{bytes_decides, pointwise, slice_cmp}
pub use Rattle.std.specs.Int.{bit_at}
pub use Rattle.std.specs.List.{Contains, All, AllByRecursion, list_any, count_by}
pub use Rattle.std.specs.List.Sorted.{IsPermutation, IsSorted}
pub use Rattle.std.specs.Ordering.{nat_cmp, on, is_eq}
pub use Rattle.std.specs.Prelude.{eqb, Ok, bytes_eq, nat_eq, Err, IsUtf8, Result, OnOk, nat_lt}
pub use Rattle.std.specs.Str.{chars, IsCharBoundary}
pub use Rattle.json_text.specs.Answer.{IsJson, StandsForAll, IsNoJson, HasDepth}
pub use Rattle.json_text.specs.Grammar.{IsText, IsScalarText, IsElements, IsMember, IsMembers, IsValue, array, member, next_element, next_member}
pub use Rattle.json_text.specs.Grammar.{object, one_element, one_member, scalar, at, no_array, no_object}
pub use Rattle.json_text.specs.Letters.{IsString, AreChars, IsChar, IsHexDigit, IsBlank, IsShort, AreBlanks}
pub use Rattle.json_text.specs.Limits.{bytes_at, IsBadNumber, AreWithinLimits}
pub use Rattle.json_text.specs.Machine.{State, Token, step, level_of, Word, change_at, Opening, closed, closes, put_close, Closing, Text, takes_value}
pub use Rattle.json_text.specs.Machine.{IsSmall, Took, after_comma, first_of, kind_of_shape, put_leaf, put_open, run_at, start, takes_name, put_comma}
pub use Rattle.json_text.specs.Meaning.{HasLone, Means, IsHigh, meaning_after, nothing, plain, short, unit}
pub use Rattle.json_text.specs.Nodes.{size, Node, Step, children, elements_from, members_from, size_of_members, children_of, is_named, key}
pub use Rattle.json_text.specs.Nodes.{size_of_elements, place, first_where}
pub use Rattle.json_text.specs.Parts.{HasPart, IsElementOf, IsValueOf, element, first_element, first_value, later_element, later_value, value}
pub use Rattle.json_text.specs.Repeats.{IsObject, meanings, repeats, repeats_next_by, is_same, repeats_by}
pub use Rattle.json_text.specs.Scanning.{string_end, turn, hold_escapes, next_of}
pub use Rattle.json_text.specs.Suspects.{IsWide, AreSuspects}
pub use Rattle.json_text.specs.Tape.{Label, extent, Named, Top, entry_in, Index, tape_of, IsAt, entry_of, Stands, itself, tape_of_members}
pub use Rattle.json_text.specs.Tape.{element_count, in_object, kind_of, member_count, role_of, tape_of_elements, IsInElements, IsInMembers, in_array}
pub use Rattle.json_text.specs.Tape.{in_element, in_later_element, in_later_member, in_member, label_spot, deepest, nothing_there, deepest_element}
pub use Rattle.json_text.specs.Tape.{deepest_member, kind_of_scalar}
pub use Rattle.json_text.specs.Tokens.{IsToken, class, AreAtoms, is_atom, sign_at, sign, text, word, Goes, IsWord, NoAtomFirst, Taken, stay, token}
pub use Rattle.json_text.specs.Tokens.{Atom, blank, is_blank, Blank, quote_end, Refused, atom_end}
pub use Rattle.json_text.specs.Tree.{Tree, Members, NoMember, Member, Obj, Elements, Name, Arr, Leaf, Spelt, Element, NoElement, Plain, Short, Source}
pub use Rattle.json_text.specs.Tree.{Unit4, Str, Scalar, then_element, then_member, Num, source_of, False, Null, True}
pub use Rattle.json_text.specs.Verdict.{IsAccepted, text_limit}
pub use lib.Lanes.{chunk, mask_l, top, zip2}
pub use lib.Utf8.{encodes}
