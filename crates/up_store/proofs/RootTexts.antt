-- What tables list of files tells the texts of the root versions, and those of the image repository's other files.
use Rattle.std.proofs.Common.{◌≡◌, ◌≤◌, ◌<◌, ◌+◌, ◌^◌, ℕ, zero, suc, List, [], ◌∷◌, Bool, true, false, cond, Option, Some, None, map, length, refl, sym, ap, ap₂, ◌∙◌, arith, length-append, bytes_eq, codes}
use Rattle.up_metadata.specs.declared.role_files.RoleTexts.{RoleTexts}
use Rattle.up_store.proofs.Common.{decimal, find, if◌then◌else◌, option_map, slice_get, enumerate_from, option_or, bytes_decides, File, Name, Repository, Image, numbered_root_name, numbered_roots, root_texts, text_named, text_among, other_text, text_held, StateRows, file_lines}
use Rattle.up_machine.specs.State.{last_text}
use Rattle.up_store.proofs.RootPuts.{no_number, numbers_apart, not_targets, not_snapshot, not_timestamp}

-- ---- what is found under a number

-- of texts that are numbered from another on
abbrev found : ℕ → ℕ → List (List ℕ) → Option (List ℕ)
found i number texts = text_named (numbered_root_name number) (map (λ (r : ℕ × List ℕ). (numbered_root_name r.0, r.1)) (enumerate_from i texts))

found_at : (i place : ℕ) (texts : List (List ℕ)) (text : List ℕ) → i + place < 2 ^ 64 → slice_get texts place ≡ Some text → found i (i + place) texts ≡ Some text
found_at i place [] text small h = cc
found_at i zero (x ∷ texts) text small h =
    let same : x ≡ text = cc in
    let named : bytes_eq (numbered_root_name i) (numbered_root_name (i + 0)) ≡ true = (bytes_decides (numbered_root_name i) (numbered_root_name (i + 0))).1 (ap numbered_root_name (plain i)) in
    ap (λ (b : Bool). option_map (λ (f : File). f.1) (cond b (Some (numbered_root_name i, x))
    (find (λ (f : File). bytes_eq f.0 (numbered_root_name (i + 0))) (map (λ (r : ℕ × List ℕ). (numbered_root_name r.0, r.1)) (enumerate_from (i + 1) texts))))) named
    ∙ ap (λ (t : List ℕ). Some t) same
  where
    plain : (n : ℕ) → n ≡ n + 0
    plain n = omega arith
found_at i (suc place) (x ∷ texts) text small h =
    let apart = numbers_apart i (i + suc place) (omega arith) small in
    ap (λ (b : Bool). option_map (λ (f : File). f.1) (cond b (Some (numbered_root_name i, x))
    (find (λ (f : File). bytes_eq f.0 (numbered_root_name (i + suc place))) (map (λ (r : ℕ × List ℕ). (numbered_root_name r.0, r.1)) (enumerate_from (i + 1) texts))))) apart
    ∙ ap (λ (n : ℕ). found (i + 1) n texts) (later i place)
    ∙ found_at (i + 1) place texts text (omega (arith, small)) h
  where
    later : (i n : ℕ) → i + suc n ≡ i + 1 + n
    later i n = omega arith

not_latest : (number : ℕ) → bytes_eq (codes "root.json") (numbered_root_name number) ≡ false
not_latest number = go (bytes_eq (codes "root.json") (numbered_root_name number)) refl
  where
    go : (b : Bool) → bytes_eq (codes "root.json") (numbered_root_name number) ≡ b → b ≡ false
    go false is = refl
    go true is =
        let size : 9 ≡ length (numbered_root_name number) = ap length ((bytes_decides (codes "root.json") (numbered_root_name number)).0 is) in
        absurd (omega (arith, size, length-append (decimal number) (codes ".root.json")))

held_is : (rows : StateRows) (repository : Repository) (number : ℕ) (text : List ℕ) → found 1 number (root_texts repository rows) ≡ Some text → text_held rows repository (numbered_root_name number) ≡ Some text
held_is rows repository number text h =
    let texts = root_texts repository rows in
    ap (λ (b : Bool). option_or (option_or (if b then last_text texts else None) (found 1 number texts)) (other_text repository rows.files (numbered_root_name number))) (not_latest number)
    ∙ ap (λ (o : Option (List ℕ)). option_or o (other_text repository rows.files (numbered_root_name number))) h

one_text : (repository : Repository) (name : Name) (a b : Option (List ℕ)) → file_lines repository name a ≡ file_lines repository name b → a ≡ b
one_text repository name None None h = refl
one_text repository name None (Some y) h = absurd (cc)
one_text repository name (Some x) None h = absurd (cc)
one_text repository name (Some x) (Some y) h = let same : x ≡ y = cc in ap Some same

-- ---- the texts of all root versions

place_within : (texts : List (List ℕ)) (place : ℕ) (text : List ℕ) → slice_get texts place ≡ Some text → place < length texts
place_within [] place text h = cc
place_within (x ∷ texts) zero text h = omega arith
place_within (x ∷ texts) (suc place) text h = let rest = place_within texts place text h in omega (arith, rest)

one_list : (xs ys : List (List ℕ)) → length xs ≡ length ys → ((place : ℕ) (x y : List ℕ) → slice_get xs place ≡ Some x → slice_get ys place ≡ Some y → x ≡ y) → xs ≡ ys
one_list [] [] size each = refl
one_list [] (y ∷ ys) size each = absurd (omega (arith, size))
one_list (x ∷ xs) [] size each = absurd (omega (arith, size))
one_list (x ∷ xs) (y ∷ ys) size each = ap₂ (λ (t : List ℕ) (ts : List (List ℕ)). t ∷ ts) (each 0 x y refl refl) (one_list xs ys (omega (arith, size)) (λ place a b here there. each (suc place) a b here there))

-- two that list the same lines
abbrev pub AreListedAlike : Repository → StateRows → StateRows → Type 0
AreListedAlike repository first second = (name : Name) → file_lines repository name (text_held first repository name) ≡ file_lines repository name (text_held second repository name)

pub one_texts : (repository : Repository) (first second : StateRows) → length (root_texts repository first) ≡ length (root_texts repository second) → length (root_texts repository first) ≤ 64
    → AreListedAlike repository first second → root_texts repository first ≡ root_texts repository second
one_texts repository first second size few same = one_list (root_texts repository first) (root_texts repository second) size (λ place x y here there.
    let low = place_within (root_texts repository first) place x here in
    let small : 1 + place < 2 ^ 64 = omega (arith, low, few) in
    let name = numbered_root_name (1 + place) in
    let one = held_is first repository (1 + place) x (found_at 1 place (root_texts repository first) x small here) in
    let two = held_is second repository (1 + place) y (found_at 1 place (root_texts repository second) y small there) in
    let texts : Some x ≡ Some y = sym one ∙ one_text repository name (text_held first repository name) (text_held second repository name) (same name) ∙ two in
    cc)

-- ---- the image repository's other files

other_is : (rows : StateRows) (t : Name) → bytes_eq (codes "root.json") t ≡ false → ((k : ℕ) → bytes_eq (numbered_root_name k) t ≡ false) → text_held rows Image t ≡ text_among rows.files t
other_is rows t latest apart =
    ap (λ (b : Bool). option_or (option_or (if b then last_text rows.image else None) (text_named t (numbered_roots rows.image))) (text_among rows.files t)) latest
    ∙ ap (λ (o : Option (List ℕ)). option_or o (text_among rows.files t)) (no_number t 1 rows.image (λ k low high. apart k))

same_other : (first second : StateRows) (t : Name) → bytes_eq (codes "root.json") t ≡ false → ((k : ℕ) → bytes_eq (numbered_root_name k) t ≡ false) → AreListedAlike Image first second
    → text_among first.files t ≡ text_among second.files t
same_other first second t latest apart same =
    sym (other_is first t latest apart) ∙ one_text Image t (text_held first Image t) (text_held second Image t) (same t) ∙ other_is second t latest apart

pub one_files : (first second : StateRows) → AreListedAlike Image first second → first.files ≡ second.files
one_files first second same = by_files first.files second.files (same_other first second (codes "targets.json") refl not_targets same) (same_other first second (codes "snapshot.json") refl not_snapshot same)
    (same_other first second (codes "timestamp.json") refl not_timestamp same)
  where
    by_files : (a b : Option RoleTexts) → text_among a (codes "targets.json") ≡ text_among b (codes "targets.json") → text_among a (codes "snapshot.json") ≡ text_among b (codes "snapshot.json")
        → text_among a (codes "timestamp.json") ≡ text_among b (codes "timestamp.json") → a ≡ b
    by_files None None targets snapshot timestamp = refl
    by_files None (Some y) targets snapshot timestamp = absurd (cc)
    by_files (Some x) None targets snapshot timestamp = absurd (cc)
    by_files (Some x) (Some y) targets snapshot timestamp =
        let a : x.targets ≡ y.targets = cc in
        let b : x.snapshot ≡ y.snapshot = cc in
        let c : x.timestamp ≡ y.timestamp = cc in
        let same : x ≡ y = λ i. record { targets = a i; snapshot = b i; timestamp = c i } in
        ap Some same
