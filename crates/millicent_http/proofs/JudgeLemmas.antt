-- The cases of a head.
use Rattle.std.proofs.Common.{◌≡◌, ℕ, Bool, true, false, List, map, refl, sym, ap, subst, inl, inr}
use Rattle.std.specs.Prelude.{codes, ◌==◌, ◌||◌, ◌&&◌, if◌then◌else◌, not}
use Rattle.std.specs.List.{list_any}
use Rattle.std.specs.Str.{bytes_eq}
use Rattle.mc_requests.specs.declared.refusal.Refusal.TheVariants.{NoHost, BodyRefused, BadTarget, BadMethod, RepeatedField}
use Rattle.millicent_http.specs.Fields.{values, host_is_fit, says_body, says_close, at_most_one, first_of}
use Rattle.scrip_form.specs.Texts.{is_target}
use Rattle.httparse.specs.Spans.{name_and_value}
use Rattle.mc_requests.specs.Requests.{Asked}
use Rattle.scrip_form.specs.Texts.{IsTarget}
use Rattle.millicent_http.specs.Items.{request, refused, judged, NextItem}
use Rattle.scrip_form.proofs.TextTests.{target_decides}

pub judged_no_host : (m t : List ℕ) (v : ℕ) (fs : List (List ℕ × List ℕ)) → host_is_fit v (values (codes "host") fs) ≡ false
    → judged m t v fs ≡ refused NoHost (v == 0 || list_any says_close fs)
unfolding judged
judged_no_host m t v fs h = rw h refl

pub judged_body : (m t : List ℕ) (v : ℕ) (fs : List (List ℕ × List ℕ)) → host_is_fit v (values (codes "host") fs) ≡ true
    → list_any says_body fs ≡ true → judged m t v fs ≡ refused BodyRefused true
unfolding judged
judged_body m t v fs h b = rw (h, b) refl

pub judged_target : (m t : List ℕ) (v : ℕ) (fs : List (List ℕ × List ℕ)) → host_is_fit v (values (codes "host") fs) ≡ true
    → list_any says_body fs ≡ false → is_target t ≡ false → judged m t v fs ≡ refused BadTarget (v == 0 || list_any says_close fs)
unfolding judged
judged_target m t v fs h b i = rw (h, b, i) refl

pub judged_method : (m t : List ℕ) (v : ℕ) (fs : List (List ℕ × List ℕ)) → host_is_fit v (values (codes "host") fs) ≡ true
    → list_any says_body fs ≡ false → is_target t ≡ true → bytes_eq m (codes "GET") ≡ false → judged m t v fs ≡ refused BadMethod (v == 0 || list_any says_close fs)
unfolding judged
judged_method m t v fs h b i g = rw (h, b, i, g) refl

pub judged_last : (m t : List ℕ) (v : ℕ) (fs : List (List ℕ × List ℕ)) → host_is_fit v (values (codes "host") fs) ≡ true
    → list_any says_body fs ≡ false → is_target t ≡ true → bytes_eq m (codes "GET") ≡ true
    → judged m t v fs ≡ (if at_most_one (values (codes "millicent-scrip") fs) && at_most_one (values (codes "millicent-sign") fs)
    then request (record { target = t; scrip = first_of (values (codes "millicent-scrip") fs); sign = first_of (values (codes "millicent-sign") fs) }) (v == 0 || list_any says_close fs)
    else refused RepeatedField (v == 0 || list_any says_close fs))
unfolding judged
judged_last m t v fs h b i g = rw (h, b, i, g) refl

-- a request passed each test
passed : (host body target get once : Bool) (close other : Bool) (asked q : Asked)
    → (if not host then refused NoHost close else if body then refused BodyRefused true else if not target then refused BadTarget close else if not get then refused BadMethod close else if once then request asked close else refused RepeatedField close) ≡ request q other
    → (target ≡ true) × (asked ≡ q)
passed false body target get once close other asked q e = absurd (cc e)
passed true true target get once close other asked q e = absurd (cc e)
passed true false false get once close other asked q e = absurd (cc e)
passed true false true false once close other asked q e = absurd (cc e)
passed true false true true false close other asked q e = absurd (cc e)
passed true false true true true close other asked q e = (refl, cc e)

judged_target_fits : (m t : List ℕ) (v : ℕ) (fs : List (List ℕ × List ℕ)) (q : Asked) (closing : Bool) → judged m t v fs ≡ request q closing → IsTarget q.target
unfolding judged
judged_target_fits m t v fs q closing e =
    let p = passed (host_is_fit v (values (codes "host") fs)) (list_any says_body fs) (is_target t) (bytes_eq m (codes "GET"))
    (at_most_one (values (codes "millicent-scrip") fs) && at_most_one (values (codes "millicent-sign") fs))
    (v == 0 || list_any says_close fs) closing
    (record { target = t; scrip = first_of (values (codes "millicent-scrip") fs); sign = first_of (values (codes "millicent-sign") fs) }) q e in
    subst IsTarget (ap (λ (a : Asked). a.target) p.1) ((target_decides t).0 p.0)

pub asks_a_target : (bytes rest : List ℕ) (q : Asked) (closing : Bool) → NextItem bytes (request q closing) rest → IsTarget q.target
asks_a_target bytes rest q closing next = elim next [
  | inl w ↦ elim w.1.reads [
    | inl h ↦ judged_target_fits h.0.method h.0.target h.0.minor (map name_and_value h.0.fields) q closing (sym h.2)
    | inr none ↦ absurd (cc none.1)
  ]
  | inr large ↦ absurd (cc large.is)
]
