-- The value at a place of a reply.
use Rattle.std.proofs.Common.{◌≡◌, ℕ, List, Option, Some, Ok, option_and_then, subst}
use Rattle.base64.specs.Engines.{standard}
use Rattle.base64.specs.GeneralPurpose.{decode_of, decoded_of}

pub value_is : {found : Option (List ℕ)} (text input bytes : List ℕ) → Some text ≡ found → input ≡ text → decode_of standard input ≡ Ok bytes → Some bytes ≡ option_and_then (decoded_of standard) found
unfolding decoded_of
value_is text input bytes is same ok =
    subst (λ (o : Option (List ℕ)). Some bytes ≡ option_and_then (decoded_of standard) o) is
    (subst (λ (t : List ℕ). Some bytes ≡ decoded_of standard t) same (search (ok)))
