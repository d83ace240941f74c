-- Which route the router finds, in plain words.
use Rattle.std.proofs.Common.{get_or, ◌≡◌, ◌==◌, ◌&&◌, not, ℕ, ◌<◌, ◌-◌, Bool, true, false, cond, zero, suc, List, [], ◌∷◌, ◌++◌, length, Option, Some, None, append-nil, refl, sym, ap, ◌∙◌, subst, arith}
use Rattle.std.proofs.lemmas.Bool.{ne_eqb, eqb-true, eq-eqb}
use Rattle.matchit.specs.Rows.{RowsOf, param_token, catch_all_token}
use Rattle.matchit.specs.Seek.{has_slash, param_step, own, step, or_else, seek, first}
use Rattle.std.specs.Prelude.{bytes_eq, codes, nat_eq, option_map}
use Rattle.matchit.specs.Router.{RouteOf}
use Rattle.up_heads.specs.declared.routes.Kind.{Kind}
use Rattle.up_heads.specs.declared.routes.Kind.TheVariants.{Manifest, Director, Image}
use Rattle.up_heads.specs.Routes.{strip, is_segment, kind, kind_from}
use Rattle.up_heads.specs.Rows.{manifest_row, director_row, image_row, known_routes}
use Rattle.up_heads.proofs.Parts.{row, row_from}

abbrev pub AreBytes : List ℕ → Type 0
AreBytes [] = Unit {0}
AreBytes (x ∷ w) = (x < 256) × AreBytes w

abbrev BytesIn : Option (List ℕ) → Type 0
BytesIn None = Unit {0}
BytesIn (Some path) = AreBytes path

module _ {K : Type 0} where
  -- rows with a byte, or with bytes, in front
  abbrev pub under : ℕ → RowsOf K → RowsOf K
  under x [] = []
  under x ((t, key) ∷ rest) = (x ∷ t, key) ∷ under x rest

  abbrev pub under_all : List ℕ → RowsOf K → RowsOf K
  under_all [] rs = rs
  under_all (x ∷ w) rs = under x (under_all w rs)

  second_none : (h : Bool) (n : ℕ) → (cond {A = ℕ × RowsOf K} h (0, []) (n, [])).1 ≡ []
  second_none true n = refl
  second_none false n = refl

  param_none : (path : List ℕ) → (param_step {K = K} [] path).1 ≡ []
  unfolding param_step
  param_none path = second_none (has_slash path) (length path)

  or_none : (o : Option K) → or_else o None ≡ o
  or_none None = refl
  or_none (Some k) = refl

  -- no route is found among none
  pub seek_none : (skip : ℕ) (path : List ℕ) → seek {K = K} skip [] path ≡ None
  unfolding seek
  seek_none skip [] = refl
  seek_none (suc skip) (b ∷ path) = seek_none skip path
  seek_none zero (b ∷ path) =
      let k = (param_step {K = K} [] (b ∷ path)).0 - 1 in
      let X : Option K → Option K = λ o. or_else o (or_else (seek k (param_step {K = K} [] (b ∷ path)).1 path) None) in
      let Y : RowsOf K → Option K = λ rs. or_else (seek k rs path) None in
      ap X (seek_none 0 path) ∙ ap Y (param_none (b ∷ path)) ∙ ap (λ o. or_else o None) (seek_none k path)

  step_under : (b x : ℕ) (rs : RowsOf K) → step b (under x rs) ≡ cond (x == b) rs []
  step_under b x [] = empty (x == b)
    where
      empty : (h : Bool) → [] ≡ cond {A = RowsOf K} h [] []
      empty true = refl
      empty false = refl
  step_under b x ((t, key) ∷ rest) = ap (λ l. cond (x == b) ((t, key) ∷ l) l) (step_under b x rest) ∙ both (x == b)
    where
      both : (h : Bool) → cond h ((t, key) ∷ cond h rest []) (cond h rest []) ≡ cond h ((t, key) ∷ rest) []
      both true = refl
      both false = refl

  step_append : (b : ℕ) (xs ys : RowsOf K) → step b (xs ++ ys) ≡ step b xs ++ step b ys
  step_append b [] ys = refl
  step_append b (([], key) ∷ xs) ys = step_append b xs ys
  step_append b ((x ∷ t, key) ∷ xs) ys = ap (λ l. cond (x == b) ((t, key) ∷ l) l) (step_append b xs ys) ∙ by_test (x == b)
    where
      by_test : (h : Bool) → cond h ((t, key) ∷ (step b xs ++ step b ys)) (step b xs ++ step b ys) ≡ cond h ((t, key) ∷ step b xs) (step b xs) ++ step b ys
      by_test true = refl
      by_test false = refl

  own_under : (x : ℕ) (rs : RowsOf K) → own (under x rs) ≡ None
  own_under x [] = refl
  own_under x ((t, key) ∷ rs) = own_under x rs

  own_append : (xs ys : RowsOf K) → own xs ≡ None → own (xs ++ ys) ≡ own ys
  own_append [] ys h = refl
  own_append (([], key) ∷ xs) ys h = absurd (cc)
  own_append ((x ∷ t, key) ∷ xs) ys h = own_append xs ys h

  -- where no row goes on with a parameter or a catch-all, the next byte decides
  by_byte : (rs : RowsOf K) (b : ℕ) (path : List ℕ) → step param_token rs ≡ [] → step catch_all_token rs ≡ [] → seek 0 rs (b ∷ path) ≡ seek 0 (step b rs) path
  unfolding seek
  by_byte rs b path none none' =
      let X : RowsOf K → Option K = λ ps. or_else (seek 0 (step b rs) path) (or_else (seek ((param_step ps (b ∷ path)).0 - 1) (param_step ps (b ∷ path)).1 path) (own (step catch_all_token rs))) in
      let k = (param_step {K = K} [] (b ∷ path)).0 - 1 in
      let Y : RowsOf K → Option K = λ ps. or_else (seek 0 (step b rs) path) (or_else (seek k ps path) (own (step catch_all_token rs))) in
      let Z : Option K → Option K = λ o. or_else (seek 0 (step b rs) path) (or_else o (own (step catch_all_token rs))) in
      let V : RowsOf K → Option K = λ cs. or_else (seek 0 (step b rs) path) (own cs) in
      ap X none ∙ ap Y (param_none (b ∷ path)) ∙ ap Z (seek_none k path) ∙ ap V none' ∙ or_none (seek 0 (step b rs) path)

  other_byte : (x y : ℕ) (rs : RowsOf K) → (x == y) ≡ false → step y (under x rs) ≡ []
  other_byte x y rs h = step_under y x rs ∙ ap (λ t. cond {A = RowsOf K} t rs []) h

  -- rows that all begin with a byte
  seek_under : (x : ℕ) (rs : RowsOf K) (b : ℕ) (path : List ℕ) → x < 256 → seek 0 (under x rs) (b ∷ path) ≡ cond (x == b) (seek 0 rs path) None
  seek_under x rs b path byte =
      by_byte (under x rs) b path (other_byte x param_token rs (ne_eqb x param_token (λ e. absurd (omega arith)))) (other_byte x catch_all_token rs (ne_eqb x catch_all_token (λ e. absurd (omega arith))))
      ∙ ap (λ l. seek 0 l path) (step_under b x rs) ∙ by_test (x == b)
    where
      by_test : (h : Bool) → seek 0 (cond h rs []) path ≡ cond h (seek 0 rs path) None
      by_test true = refl
      by_test false = seek_none 0 path

  seek_nil : (rs : RowsOf K) → own rs ≡ None → seek 0 rs [] ≡ None
  unfolding seek
  seek_nil rs h = h

  abbrev pub behind : Option (List ℕ) → RowsOf K → Option K
  behind None rs = None
  behind (Some path) rs = seek 0 rs path

  -- rows that all begin with a text
  pub seek_text : (w : List ℕ) (rs : RowsOf K) (path : List ℕ) → AreBytes w → seek 0 (under_all w rs) path ≡ behind (strip w path) rs
  seek_text [] rs path bytes = refl
  seek_text (x ∷ w) rs [] bytes = seek_nil (under x (under_all w rs)) (own_under x (under_all w rs))
  seek_text (x ∷ w) rs (b ∷ path) bytes =
      seek_under x (under_all w rs) b path bytes.0 ∙ ap (λ o. cond (x == b) o None) (seek_text w rs path bytes.1) ∙ by_test (x == b)
    where
      by_test : (h : Bool) → cond h (behind (strip w path) rs) None ≡ behind (cond h (strip w path) None) rs
      by_test true = refl
      by_test false = refl

  -- rows that begin with one of two bytes
  pub seek_two : (x y : ℕ) (firsts others : RowsOf K) (b : ℕ) (path : List ℕ) → x < 256 → y < 256 → (x == y) ≡ false
      → seek 0 (under x firsts ++ under y others) (b ∷ path) ≡ cond (x == b) (seek 0 firsts path) (cond (y == b) (seek 0 others path) None)
  seek_two x y firsts others b path p q apart =
      by_byte (under x firsts ++ under y others) b path (none param_token (ne_eqb x param_token (λ e. absurd (omega arith))) (ne_eqb y param_token (λ e. absurd (omega arith))))
      (none catch_all_token (ne_eqb x catch_all_token (λ e. absurd (omega arith))) (ne_eqb y catch_all_token (λ e. absurd (omega arith))))
      ∙ ap (λ l. seek 0 l path) (step_append b (under x firsts) (under y others) ∙ ap (λ l. l ++ step b (under y others)) (step_under b x firsts) ∙ ap (λ l. cond (x == b) firsts [] ++ l) (step_under b y others))
      ∙ by_test (x == b) (y == b) refl refl
    where
      none : (t : ℕ) → (x == t) ≡ false → (y == t) ≡ false → step t (under x firsts ++ under y others) ≡ []
      none t h k = step_append t (under x firsts) (under y others) ∙ ap (λ l. l ++ step t (under y others)) (other_byte x t firsts h) ∙ other_byte y t others k

      by_test : (h k : Bool) → (x == b) ≡ h → (y == b) ≡ k → seek 0 (cond h firsts [] ++ cond k others []) path ≡ cond h (seek 0 firsts path) (cond k (seek 0 others path) None)
      by_test true true e f = absurd (let same : x ≡ y = eqb-true x b e ∙ sym (eqb-true y b f) in cc (eq-eqb x y same))
      by_test true false e f = ap (λ l. seek 0 l path) (append-nil firsts)
      by_test false true e f = refl
      by_test false false e f = seek_none 0 path

  -- a parameter that is the whole of the rest
  abbrev pub whole : K → RowsOf K
  whole key = (param_token ∷ [], key) ∷ []

  seek_all : (key : K) (path : List ℕ) → seek (length path) (([], key) ∷ []) path ≡ Some key
  unfolding seek
  seek_all key [] = refl
  seek_all key (b ∷ path) = seek_all key path

  own_whole : (key : K) → own (whole key) ≡ None
  own_whole key = refl

  -- the parameter takes the rest, if that is one segment
  after_whole : (key : K) (b : ℕ) (path : List ℕ) (h : Bool) → has_slash (b ∷ path) ≡ h
      → seek ((param_step (([], key) ∷ []) (b ∷ path)).0 - 1) (param_step (([], key) ∷ []) (b ∷ path)).1 path ≡ cond (not h) (Some key) None
  unfolding param_step
  after_whole key b path true is =
      let X : Bool → Option K = λ h. seek ((cond {A = ℕ × RowsOf K} h (0, []) (length (b ∷ path), ([], key) ∷ [])).0 - 1) (cond {A = ℕ × RowsOf K} h (0, []) (length (b ∷ path), ([], key) ∷ [])).1 path in
      ap X is ∙ seek_none 0 path
  after_whole key b path false is =
      let X : Bool → Option K = λ h. seek ((cond {A = ℕ × RowsOf K} h (0, []) (length (b ∷ path), ([], key) ∷ [])).0 - 1) (cond {A = ℕ × RowsOf K} h (0, []) (length (b ∷ path), ([], key) ∷ [])).1 path in
      ap X is ∙ ap (λ n. seek n (([], key) ∷ []) path) (omega arith) ∙ seek_all key path

  -- a text or a parameter
  pub seek_or : (x : ℕ) (rows : RowsOf K) (key : K) (b : ℕ) (path : List ℕ) → x < 256 → b < 256
      → seek 0 (under x rows ++ whole key) (b ∷ path) ≡ or_else (cond (x == b) (seek 0 rows path) None) (cond (not (has_slash (b ∷ path))) (Some key) None)
  unfolding seek
  seek_or x rows key b path p q =
      let R = under x rows ++ whole key in
      let literal : step b R ≡ cond (x == b) rows [] =
      step_append b (under x rows) (whole key) ∙ ap (λ l. l ++ step b (whole key)) (step_under b x rows) ∙ ap (λ h. cond (x == b) rows [] ++ cond {A = RowsOf K} h (([], key) ∷ []) []) (ne_eqb param_token b (λ e. absurd (omega arith))) ∙ append-nil (cond (x == b) rows []) in
      let param : step param_token R ≡ ([], key) ∷ [] =
      step_append param_token (under x rows) (whole key) ∙ ap (λ l. l ++ (([], key) ∷ [])) (other_byte x param_token rows (ne_eqb x param_token (λ e. absurd (omega arith)))) in
      let catch : step catch_all_token R ≡ [] =
      step_append catch_all_token (under x rows) (whole key) ∙ ap (λ l. l ++ []) (other_byte x catch_all_token rows (ne_eqb x catch_all_token (λ e. absurd (omega arith)))) in
      let A : RowsOf K → Option K = λ l. or_else (seek 0 l path) (or_else (seek ((param_step (step param_token R) (b ∷ path)).0 - 1) (param_step (step param_token R) (b ∷ path)).1 path) (own (step catch_all_token R))) in
      let B : RowsOf K → Option K = λ l. or_else (seek 0 (cond (x == b) rows []) path) (or_else (seek ((param_step l (b ∷ path)).0 - 1) (param_step l (b ∷ path)).1 path) (own (step catch_all_token R))) in
      let C : RowsOf K → Option K = λ l. or_else (seek 0 (cond (x == b) rows []) path) (or_else (seek ((param_step (([], key) ∷ []) (b ∷ path)).0 - 1) (param_step (([], key) ∷ []) (b ∷ path)).1 path) (own l)) in
      let D : Option K → Option K = λ o. or_else (seek 0 (cond (x == b) rows []) path) (or_else o None) in
      let E : Option K → Option K = λ o. or_else o (cond (not (has_slash (b ∷ path))) (Some key) None) in
      ap A literal ∙ ap B param ∙ ap C catch ∙ ap D (after_whole key b path (has_slash (b ∷ path)) refl)
      ∙ ap (λ o. or_else (seek 0 (cond (x == b) rows []) path) o) (or_none (cond (not (has_slash (b ∷ path))) (Some key) None)) ∙ ap E (by_test (x == b))
    where
      by_test : (h : Bool) → seek 0 (cond h rows []) path ≡ cond h (seek 0 rows path) None
      by_test true = refl
      by_test false = seek_none 0 path

  none_is : (h : Bool) → cond {A = Option K} h None None ≡ None
  none_is true = refl
  none_is false = refl

  -- a text alone
  pub seek_literal : (w : List ℕ) (key : K) (path : List ℕ) → AreBytes w → seek 0 (under_all w (([], key) ∷ [])) path ≡ cond (bytes_eq path w) (Some key) None
  unfolding seek
  seek_literal [] key [] bytes = refl
  seek_literal [] key (b ∷ path) bytes = by_byte (([], key) ∷ []) b path refl refl ∙ seek_none 0 path
  seek_literal (x ∷ w) key [] bytes = own_under x (under_all w (([], key) ∷ []))
  seek_literal (x ∷ w) key (b ∷ path) bytes =
      seek_under x (under_all w (([], key) ∷ [])) b path bytes.0 ∙ ap (λ o. cond (x == b) o None) (seek_literal w key path bytes.1) ∙ by_test (x == b) refl
    where
      by_test : (h : Bool) → (x == b) ≡ h → cond h (cond (bytes_eq path w) (Some key) None) None ≡ cond (nat_eq b x && bytes_eq path w) (Some key) None
      by_test true is = ap (λ t. cond (t && bytes_eq path w) (Some key) None) (sym (eq-eqb b x (sym (eqb-true x b is))))
      by_test false is = ap (λ t. cond (t && bytes_eq path w) (Some key) None) (sym (ne_eqb b x (λ e. absurd (cc (is, eq-eqb x b (sym e))))))

  -- a parameter alone
  pub seek_whole : (key : K) (path : List ℕ) → AreBytes path → seek 0 (whole key) path ≡ cond (is_segment path) (Some key) None
  unfolding seek
  seek_whole key [] bytes = refl
  seek_whole key (b ∷ path) bytes =
      seek_or 0 [] key b path (omega arith) bytes.0
      ∙ ap (λ o. or_else o (cond (not (has_slash (b ∷ path))) (Some key) None)) (ap (λ o. cond (0 == b) o None) (seek_none 0 path) ∙ none_is (0 == b))

  -- a text, or else a parameter
  pub seek_either : (x : ℕ) (w : List ℕ) (one other : K) (path : List ℕ) → x < 256 → AreBytes w → AreBytes path
      → seek 0 (under x (under_all w (([], one) ∷ [])) ++ whole other) path ≡ cond (bytes_eq path (x ∷ w)) (Some one) (cond (is_segment path) (Some other) None)
  seek_either x w one other [] p bytes own_bytes = seek_nil (under x (under_all w (([], one) ∷ [])) ++ whole other) (own_append (under x (under_all w (([], one) ∷ []))) (whole other) (own_under x (under_all w (([], one) ∷ []))))
  seek_either x w one other (b ∷ path) p bytes own_bytes =
      seek_or x (under_all w (([], one) ∷ [])) other b path p own_bytes.0
      ∙ ap (λ o. or_else o (cond (not (has_slash (b ∷ path))) (Some other) None)) (sym (seek_under x (under_all w (([], one) ∷ [])) b path p) ∙ seek_literal (x ∷ w) one (b ∷ path) (p, bytes))
      ∙ by_test (bytes_eq (b ∷ path) (x ∷ w)) (cond (not (has_slash (b ∷ path))) (Some other) None)
    where
      by_test : (h : Bool) (o : Option K) → or_else (cond h (Some one) None) o ≡ cond h (Some one) o
      by_test true o = refl
      by_test false o = refl

-- what stands behind a text in bytes is bytes
strip_bytes : (w path rest : List ℕ) → AreBytes path → strip w path ≡ Some rest → AreBytes rest
strip_bytes [] path rest bytes is = subst (λ o. BytesIn o) is bytes
strip_bytes (x ∷ w) [] rest bytes is = absurd (cc)
strip_bytes (x ∷ w) (b ∷ path) rest bytes is = by_test (x == b) is (strip_bytes w path rest bytes.1)
  where
    by_test : (h : Bool) → cond h (strip w path) None ≡ Some rest → (strip w path ≡ Some rest → AreBytes rest) → AreBytes rest
    by_test true is f = f is
    by_test false is f = absurd (cc)

abbrev director_rows : RowsOf (RouteOf Kind)
director_rows = under 109 (under_all (codes "anifest") (([], manifest_row) ∷ [])) ++ whole director_row

abbrev image_rows : RowsOf (RouteOf Kind)
image_rows = whole image_row

abbrev two_rows : RowsOf (RouteOf Kind)
two_rows = under 100 (under_all (codes "irector/") director_rows) ++ under 105 (under_all (codes "mage/") image_rows)

behind_director : (o : Option (List ℕ)) (path : List ℕ) → AreBytes path → strip (codes "irector/") path ≡ o → behind o director_rows ≡ row_from o None
behind_director None path bytes is = refl
behind_director (Some rest) path bytes is = seek_either 109 (codes "anifest") manifest_row director_row rest (omega arith) anifest_bytes (strip_bytes (codes "irector/") path rest bytes is)
  where
    anifest_bytes : AreBytes (codes "anifest")
    anifest_bytes = (omega arith, (omega arith, (omega arith, (omega arith, (omega arith, (omega arith, (omega arith, tt)))))))

behind_image : (o : Option (List ℕ)) (path : List ℕ) → AreBytes path → strip (codes "mage/") path ≡ o → behind o image_rows ≡ row_from None o
behind_image None path bytes is = refl
behind_image (Some rest) path bytes is = seek_whole image_row rest (strip_bytes (codes "mage/") path rest bytes is)

found_two : (path : List ℕ) → AreBytes path → seek 0 two_rows path ≡ row_from (strip (codes "director/") path) (strip (codes "image/") path)
found_two [] bytes = seek_nil two_rows refl
found_two (d ∷ path) bytes =
    seek_two 100 105 (under_all (codes "irector/") director_rows) (under_all (codes "mage/") image_rows) d path (omega arith) (omega arith) refl
    ∙ by_test (100 == d) (105 == d) refl refl
  where
    irector : AreBytes (codes "irector/")
    irector = (omega arith, (omega arith, (omega arith, (omega arith, (omega arith, (omega arith, (omega arith, (omega arith, tt))))))))

    mage : AreBytes (codes "mage/")
    mage = (omega arith, (omega arith, (omega arith, (omega arith, (omega arith, tt)))))

    by_test : (h k : Bool) → (100 == d) ≡ h → (105 == d) ≡ k
        → cond h (seek 0 (under_all (codes "irector/") director_rows) path) (cond k (seek 0 (under_all (codes "mage/") image_rows) path) None)
        ≡ row_from (cond h (strip (codes "irector/") path) None) (cond k (strip (codes "mage/") path) None)
    by_test true true e f = absurd (let same : 100 ≡ 105 = eqb-true 100 d e ∙ sym (eqb-true 105 d f) in omega arith)
    by_test true false e f = seek_text (codes "irector/") director_rows path irector ∙ behind_director (strip (codes "irector/") path) path bytes.1 refl
    by_test false true e f = seek_text (codes "mage/") image_rows path mage ∙ behind_image (strip (codes "mage/") path) path bytes.1 refl
    by_test false false e f = refl

-- the router finds the route of the path
pub route_found : (path : List ℕ) → AreBytes path → first known_routes path ≡ row path
route_found [] bytes = seek_nil known_routes refl
route_found (c ∷ path) bytes = seek_under 47 two_rows c path (omega arith) ∙ by_test (47 == c)
  where
    by_test : (h : Bool) → cond h (seek 0 two_rows path) None ≡ row_from (cond h (strip (codes "director/") path) None) (cond h (strip (codes "image/") path) None)
    by_test true = found_two path bytes.1
    by_test false = refl

pub bytes_of : (path : List ℕ) → ((i : ℕ) → get_or path i 0 < 256) → AreBytes path
bytes_of [] fits = tt
bytes_of (b ∷ path) fits = (fits 0, bytes_of path (λ i. fits (suc i)))

kind_by : (t s : Bool) → option_map (λ r. r.value) (cond t (Some manifest_row) (cond s (Some director_row) None)) ≡ cond t (Some Manifest) (cond s (Some Director) None)
kind_by true s = refl
kind_by false true = refl
kind_by false false = refl

kind_by_one : (s : Bool) → option_map (λ r. r.value) (cond s (Some image_row) None) ≡ cond s (Some Image) None
kind_by_one true = refl
kind_by_one false = refl

kind_is_from : (a b : Option (List ℕ)) → option_map (λ r. r.value) (row_from a b) ≡ kind_from a b
kind_is_from (Some rest) b = kind_by (bytes_eq rest (codes "manifest")) (is_segment rest)
kind_is_from None (Some rest) = kind_by_one (is_segment rest)
kind_is_from None None = refl

-- what the row of a path leads to
pub kind_is : (path : List ℕ) → option_map (λ r. r.value) (row path) ≡ kind path
unfolding kind
kind_is path = kind_is_from (strip (codes "/director/") path) (strip (codes "/image/") path)
