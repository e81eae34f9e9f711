-- Where two stores hold the same, the calls of the same turn are the same, and lead to two that hold the same.
use Rattle.std.proofs.Common.{◌≡◌, ℕ, ◌==◌, ◌&&◌, Bool, true, false, List, [], ◌∷◌, is_some, if◌then◌else◌, refl, sym, ap, subst}
use Rattle.rv32_image.specs.Image.{LoadedImage}
use Rattle.rv32_exec.specs.declared.stop.Stop.{Stop}
use Rattle.rv32_exec.specs.declared.stop.Stop.TheVariants as stop
use Rattle.rv32_exec.specs.Hart.{HartState}
use Rattle.violations.specs.View.{StoreView, Waits}
use Rattle.violations.specs.Rule.{IsSameView}
use Rattle.violations.specs.Calls.{Call, Load, Store, StraightLoad, StraightStore, Publish, Leads, IsFixed, FixWaits}
use Rattle.homefree.specs.declared.register.Running.{Running}
use Rattle.homefree.specs.Moves.{Moves, exit_calls, stop_calls, access_calls}
use Rattle.homefree.specs.Turned.{wait_at}
use Rattle.homefree.proofs.Fixed.Hurt.{one_view}

-- what is promised of every store
pub record Laws {S : Type 0} (makes : S → Call → S → Type 0) (alike : S → S → Type 0) (view : S → StoreView) (waits : S → Waits) : Type 0 where
  pub fixed : IsFixed makes alike
  pub views : (s t : S) → alike s t → IsSameView (view s) (view t)
  pub waiting : FixWaits makes alike waits

module _ {S : Type 0} (makes : S → Call → S → Type 0) (alike : S → S → Type 0) (view : S → StoreView) (waits : S → Waits) (laws : Laws makes alike view waits) where
  pub leads_alike : (calls : List Call) (s u s' u' : S) → alike s s' → Leads makes calls s u → Leads makes calls s' u' → alike u u'
  leads_alike [] s u s' u' same one two = subst (λ x. alike x u') (sym one) (subst (alike s) (sym two) same)
  leads_alike (call ∷ calls) s u s' u' same one two =
      leads_alike calls one.0 u two.0 u' (laws.fixed s one.0 s' two.0 call same one.1 two.1) one.2 two.2

  pub views_are : (s t : S) → alike s t → view s ≡ view t
  views_are s t same = one_view (view s) (view t) (laws.views s t same)

  pub moves_alike : (first first' : List Call) (exits exits' : Bool) (count core : ℕ) (s u s' u' : S) → first ≡ first' → exits ≡ exits' → alike s s' → Moves makes view first exits count core s u
      → Moves makes view first' exits' count core s' u' → alike u u'
  moves_alike first first' exits exits' count core s u s' u' firsts ends same one two =
      let mid = leads_alike first s one.mid s' two.mid same one.leads (subst (λ c. Leads makes c s' two.mid) (sym firsts) two.leads) in
      let calls : exit_calls exits count core (view one.mid) ≡ exit_calls exits' count core (view two.mid) = (λ i. exit_calls (ends i) count core (views_are one.mid two.mid mid i)) in
      leads_alike (exit_calls exits count core (view one.mid)) one.mid u two.mid u' mid one.rest (subst (λ c. Leads makes c two.mid u') (sym calls) two.rest)

  -- ---- the same wait at an access

  -- the first calls of both begin with this speculative load
  load_waits : (address width core : ℕ) (more more' : List Call) (s u s' u' : S) → alike s s' → Leads makes (Load core address width ∷ more) s u → Leads makes (Load core address width ∷ more') s' u'
      → (waits s).load core address width ≡ (waits s').load core address width
  load_waits address width core more more' s u s' u' same one two = laws.waiting.load s one.0 s' two.0 core address width same one.1 two.1

  store_waits : (address width value core : ℕ) (more more' : List Call) (s u s' u' : S) → alike s s' → Leads makes (Store core address width value ∷ more) s u → Leads makes (Store core address width value ∷ more') s' u'
      → (waits s).store core address width ≡ (waits s').store core address width
  store_waits address width value core more more' s u s' u' same one two = laws.waiting.store s one.0 s' two.0 core address width value same one.1 two.1

  -- a core at its stop, which isn't straight, waits in both for the same cause
  pub stop_waits : (image : LoadedImage) (homefree core : ℕ) (r : Running) (now : HartState) (at : Stop) (s u s' u' : S) → r.straight ≡ false → alike s s'
      → Leads makes (stop_calls image (waits s) homefree core r now at) s u → Leads makes (stop_calls image (waits s') homefree core r now at) s' u' → wait_at (waits s) core at ≡ wait_at (waits s') core at
  stop_waits image homefree core r now (stop.Load address width signed rd) s u s' u' spec same one two =
      let goes = is_some ((waits s).load core address width) && (r.epoch == homefree) in
      let goes' = is_some ((waits s').load core address width) && (r.epoch == homefree) in
      load_waits address width core (if goes then Publish core ∷ StraightLoad core address width ∷ [] else []) (if goes' then Publish core ∷ StraightLoad core address width ∷ [] else []) s u s' u' same
      (subst (λ b. Leads makes (access_calls b goes core (Load core address width) (StraightLoad core address width)) s u) spec one)
      (subst (λ b. Leads makes (access_calls b goes' core (Load core address width) (StraightLoad core address width)) s' u') spec two)
  stop_waits image homefree core r now (stop.Store address width value) s u s' u' spec same one two =
      let goes = is_some ((waits s).store core address width) && (r.epoch == homefree) in
      let goes' = is_some ((waits s').store core address width) && (r.epoch == homefree) in
      store_waits address width value core (if goes then Publish core ∷ StraightStore core address width value ∷ [] else []) (if goes' then Publish core ∷ StraightStore core address width value ∷ [] else []) s u s' u' same
      (subst (λ b. Leads makes (access_calls b goes core (Store core address width value) (StraightStore core address width value)) s u) spec one)
      (subst (λ b. Leads makes (access_calls b goes' core (Store core address width value) (StraightStore core address width value)) s' u') spec two)
  stop_waits image homefree core r now stop.Ended s u s' u' spec same one two = refl
  stop_waits image homefree core r now (stop.Fault cause pc) s u s' u' spec same one two = refl

  -- the calls of a core at its stop are the same
  pub stop_same : (image : LoadedImage) (homefree core : ℕ) (r : Running) (now : HartState) (at : Stop) (v w : Waits) → (r.straight ≡ false → wait_at v core at ≡ wait_at w core at)
      → stop_calls image v homefree core r now at ≡ stop_calls image w homefree core r now at
  stop_same image homefree core r now (stop.Load address width signed rd) v w same = pick r.straight refl
    where
      pick : (b : Bool) → r.straight ≡ b → access_calls b (is_some (v.load core address width) && (r.epoch == homefree)) core (Load core address width) (StraightLoad core address width)
          ≡ access_calls b (is_some (w.load core address width) && (r.epoch == homefree)) core (Load core address width) (StraightLoad core address width)
      pick true e = refl
      pick false e = ap (λ o. access_calls false (is_some o && (r.epoch == homefree)) core (Load core address width) (StraightLoad core address width)) (same e)
  stop_same image homefree core r now (stop.Store address width value) v w same = pick r.straight refl
    where
      pick : (b : Bool) → r.straight ≡ b → access_calls b (is_some (v.store core address width) && (r.epoch == homefree)) core (Store core address width value) (StraightStore core address width value)
          ≡ access_calls b (is_some (w.store core address width) && (r.epoch == homefree)) core (Store core address width value) (StraightStore core address width value)
      pick true e = refl
      pick false e = ap (λ o. access_calls false (is_some o && (r.epoch == homefree)) core (Store core address width value) (StraightStore core address width value)) (same e)
  stop_same image homefree core r now stop.Ended v w same = refl
  stop_same image homefree core r now (stop.Fault cause pc) v w same = refl
