-- Names and words are ASCII, so they are UTF-8.
use Rattle.std.proofs.Common.{◌≡◌, ◌<◌, ◌∷◌, [], ℕ, List, arith, refl, suc, true, zero}
use Rattle.std.proofs.lemmas.Bool.{and_parts}
use Rattle.std.proofs.lemmas.Str.{IsUtf8-from_ascii}
use Rattle.std.specs.List.{list_all}
use Rattle.std.specs.Str.{IsAscii, IsUtf8}
use Rattle.ring_id.specs.GroupName.{IsName, is_name_byte}
use Rattle.ring_any.specs.Any.{word_of}
use Rattle.ring_any.specs.declared.any.Any.{Any}
use Rattle.ring_any.specs.declared.any.Any.TheVariants.{Chang, Hirschberg, LeLann, Peterson}

name_byte_below : (b : ℕ) → is_name_byte b ≡ true → b < 128
name_byte_below b legal = grind (arith, legal)

ascii : (bytes : List ℕ) → list_all is_name_byte bytes ≡ true → IsAscii bytes
ascii [] legal i = omega arith
ascii (b ∷ bytes) legal zero = name_byte_below b (and_parts _ (list_all is_name_byte bytes) legal).0
ascii (b ∷ bytes) legal (suc i) = ascii bytes (and_parts (is_name_byte b) _ legal).1 i

pub name_utf8 : (name : List ℕ) → IsName name → IsUtf8 name
name_utf8 name legal = IsUtf8-from_ascii name (ascii name legal.each)

in_names : (kind : Any) → list_all is_name_byte (word_of kind) ≡ true
in_names LeLann = refl
in_names Chang = refl
in_names Hirschberg = refl
in_names Peterson = refl

pub word_utf8 : (kind : Any) → IsUtf8 (word_of kind)
word_utf8 kind = IsUtf8-from_ascii (word_of kind) (ascii (word_of kind) (in_names kind))
