-- Where epochs that run in order conflict, the nearest that depend on each other do; else only epochs past the end can.
use Rattle.std.proofs.Common.{◌≡◌, ℕ, ◌+◌, ◌<◌, ◌≤◌, true, false, Option, Some, None, refl, sym, subst, inl, inr, arith}
use Rattle.std.proofs.lemmas.Bool.{cases_lt}
use Rattle.std.proofs.lemmas.Bool.Decides.{nat_tests}
use Rattle.rv32_image.specs.Image.{LoadedImage}
use Rattle.epoch_paths.specs.Paths.{ReadsOutside, Stores}
use Rattle.epoch_paths.specs.InOrder.{IsInOrder, AreAll}
use Rattle.dependences.specs.Conflict.{ConflictInOrder, first_beside}
use Rattle.dependences.specs.Kept.{is_near}
use Rattle.dependences.specs.Nearest.{Depends, IsLaterAt, IsNearest}
use Rattle.epoch_paths.proofs.InOrder.{all_in_order}
use Rattle.dependences.proofs.Showing.{run_in_order}
use Rattle.never_or_shown.specs.Shown.{IsConflictAt}

-- two epochs that depend on each other, and are nearer than there are cores, conflict
depends_conflicts : (image : LoadedImage) (cores earlier later : ℕ) → Depends image earlier later → later < earlier + cores → IsConflictAt image cores later
depends_conflicts image cores earlier later x near =
    let before = x.before in
    let order = all_in_order image later earlier x.in_order (omega (arith, before)) in record {
      conflict = record {
        earlier = earlier;
        later = later;
        byte = x.byte;
        beside = record {
          from = omega (arith, near);
          before = before;
          within = x.within;
          starts = all_in_order image later (first_beside cores later) x.in_order (omega arith);
        };
        in_order = order;
        stores = subst (λ m. Stores image earlier m x.byte) (sym (run_in_order image cores earlier order)) x.stores;
        reads = subst (λ m. ReadsOutside image later m x.byte) (sym (run_in_order image cores later x.in_order)) x.reads;
      };
      is = refl;
    }

pub near_conflicts : (image : LoadedImage) (cores : ℕ) (nearest : Option ℕ) (later : ℕ) → is_near cores nearest ≡ true → IsLaterAt image nearest later → IsConflictAt image cores later
near_conflicts image cores (Some distance) later near (earlier, depends, is) =
    depends_conflicts image cores earlier later depends (let less : distance < cores = grind (arith, nat_tests) in omega (arith, less, is))
near_conflicts image cores None later near at = absurd cc

-- where no two are, no epoch that runs in order conflicts with an earlier one
module _ (image : LoadedImage) (cores : ℕ) (nearest : Option ℕ) (least : IsNearest image nearest) (far : is_near cores nearest ≡ false) (some : 1 ≤ cores) where
  far_by : (nearest : Option ℕ) → IsNearest image nearest → is_near cores nearest ≡ false → (earlier later : ℕ) → Depends image earlier later → earlier + cores ≤ later
  far_by (Some distance) least far earlier later depends =
      let most : cores ≤ distance = grind (arith, nat_tests) in
      let apart = least.1 earlier later depends in omega (arith, most, apart)
  far_by None least far earlier later depends = absurd (least earlier later depends)

  far_in_order : (x : ConflictInOrder image cores) → IsInOrder image x.later → ⊥
  far_in_order x order =
      let from = x.beside.from in
      let apart = far_by nearest least far x.earlier x.later (record {
        byte = x.byte;
        before = x.beside.before;
        within = x.beside.within;
        in_order = order;
        stores = subst (λ m. Stores image x.earlier m x.byte) (run_in_order image cores x.earlier x.in_order) x.stores;
        reads = subst (λ m. ReadsOutside image x.later m x.byte) (run_in_order image cores x.later order) x.reads;
      }) in
      omega (arith, from, apart, some)

  -- so the later one is past them, and less than `cores` past the last
  pub past_end : (ran : ℕ) → AreAll image ran → (x : ConflictInOrder image cores) → (ran ≤ x.later) × (x.later < ran + cores)
  past_end ran all x =
      let from = x.beside.from in
      let before = x.beside.before in
      let within = x.beside.within in
      let first = all.no_more (first_beside cores x.later) (omega (arith, within)) x.beside.starts in (
        elim (cases_lt x.later ran) [
          | inl low ↦ absurd (far_in_order x (all.each x.later low))
          | inr past ↦ past
        ],
        omega (arith, first, from, before),
      )
