-- The two words of a metadata version say its ten bytes.
use Rattle.std.proofs.Common.{◌≡◌, ℕ, ◌+◌, ◌<◌, ◌++◌, List, length, get_or, take, drop, ◌∙◌, ap, inl, inr, arith}
use Rattle.std.proofs.lemmas.Bool.{cases_lt}
use Rattle.std.proofs.lemmas.List.{get_or-take, get_or-drop, get_or_past, length-drop, length-take-le, take-append-drop}
use Rattle.std.proofs.lemmas.Nat.{be_bytes_2, be_bytes_8}
use Rattle.std.specs.Int.{w16, w64, from_be_bytes, to_be_bytes}
use Rattle.fdb_live.specs.private.Words.{metadata_of}

-- the first eight of some bytes are bytes
first_fit : (bytes : List ℕ) → length bytes ≡ 10 → ((i : ℕ) → get_or bytes i 0 < 256) → (i : ℕ) → get_or (take 8 bytes) i 0 < 256
first_fit bytes ten fit i =
    elim (cases_lt i 8) [
      | inl within ↦ let e = get_or-take 8 bytes i 0 within in let f = fit i in omega arith
      | inr past ↦ let e = get_or_past (take 8 bytes) i 0 (omega (arith, length-take-le 8 bytes (omega arith))) in omega arith
    ]

pub says_the_bytes : (bytes : List ℕ) (first second : ℕ) → length bytes ≡ 10 → ((i : ℕ) → get_or bytes i 0 < 256) → first ≡ from_be_bytes w64 (take 8 bytes) → second ≡ from_be_bytes w16 (drop 8 bytes) → metadata_of first second ≡ bytes
says_the_bytes bytes first second ten fit f s =
    let eight : to_be_bytes w64 first ≡ take 8 bytes = be_bytes_8 (take 8 bytes) first (length-take-le 8 bytes (omega arith)) (first_fit bytes ten fit) f in
    let two : to_be_bytes w16 second ≡ drop 8 bytes = be_bytes_2 (drop 8 bytes) second (omega (arith, length-drop 8 bytes)) (λ i. let e = get_or-drop 8 bytes i 0 in let g = fit (8 + i) in omega arith) s in
    ap (λ l. l ++ to_be_bytes w16 second) eight ∙ (ap (λ l. take 8 bytes ++ l) two ∙ take-append-drop 8 bytes)
