-- Texts that are written one behind the other.
use Rattle.std.proofs.Common.{◌≡◌, ◌∙◌, ℕ, List, [], ◌∷◌, ◌++◌, ap, append_assoc, map}
use Rattle.std.proofs.lemmas.List.{map_push}

pub two_written : (before one two a b : List ℕ) → one ≡ before ++ a → two ≡ one ++ b → two ≡ before ++ (a ++ b)
two_written before one two a b is more = more ∙ (ap (λ text. text ++ b) is ∙ append_assoc before a b)

pub written : (before one two three a b c : List ℕ) → one ≡ before ++ a → two ≡ one ++ b → three ≡ two ++ c → three ≡ before ++ ((a ++ b) ++ c)
written before one two three a b c is more all = all ∙ (ap (λ text. text ++ c) (more ∙ ap (λ text. text ++ b) is) ∙ simp append_assoc)

-- what is pushed behind some items is there when they are read
pub pushed_on : {X Y : Type 0} (f : X → Y) (before after : List X) (item : X) (read : List Y) → after ≡ before ++ item ∷ [] → map f before ≡ read → map f after ≡ read ++ f item ∷ []
pushed_on f before after item read is was = ap (map f) is ∙ (map_push f before item ∙ ap (λ part. part ++ f item ∷ []) was)
