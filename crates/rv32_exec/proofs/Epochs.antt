-- How the loop's result goes on over one epoch.
use Rattle.std.proofs.Common.{◌≡◌, ℕ, zero, suc, ◌+◌, ◌-◌, ◌<◌, Bool, true, false, cond, List, refl, sym, ap, ◌∙◌, arith, add-one}
use Rattle.rv32_exec.specs.declared.sequential.End.{End}
use Rattle.rv32_exec.specs.declared.sequential.End.TheVariants.{Done, Exit, Fault}
use Rattle.rv32_image.specs.Image.{LoadedImage}
use Rattle.rv32_exec.specs.Hart.{HartState}
use Rattle.rv32_exec.specs.Sequential.{Progress, SequentialResult, Runs, Ends, Faults, exits, epoch_outcome, first_epochs, result_of, sequential_result, then_epoch}

pub first_epochs-none : (image : LoadedImage) → first_epochs image 0 ≡ record { end = Done 0; bytes = image.bytes }
unfolding first_epochs
first_epochs-none image = refl

-- one more epoch, where those before it are done
pub one_more_epoch : (image : LoadedImage) (epoch n : ℕ) (memory : List ℕ) → first_epochs image epoch ≡ record { end = Done n; bytes = memory }
    → first_epochs image (suc epoch) ≡ result_of image epoch (epoch_outcome image epoch memory)
unfolding first_epochs
one_more_epoch image epoch n memory before = rw before refl

pub first_epochs-ends : (image : LoadedImage) (epoch : ℕ) (h : HartState) (memory memory' : List ℕ)
    → first_epochs image epoch ≡ record { end = Done epoch; bytes = memory } → Ends h memory' ≡ epoch_outcome image epoch memory → exits image h ≡ false
    → first_epochs image (epoch + 1) ≡ record { end = Done (epoch + 1); bytes = memory' }
first_epochs-ends image epoch h memory memory' before outcome goes_on =
    rw (add-one epoch) (one_more_epoch image epoch epoch memory before ∙ (ap (result_of image epoch) (sym outcome)
    ∙ (ap (λ b. record { end = cond b (Exit epoch) (Done (epoch + 1)); bytes = memory' }) goes_on ∙ ap (λ n. record { end = Done n; bytes = memory' }) (add-one epoch))))

pub first_epochs-exits : (image : LoadedImage) (epoch : ℕ) (h : HartState) (memory memory' : List ℕ)
    → first_epochs image epoch ≡ record { end = Done epoch; bytes = memory } → Ends h memory' ≡ epoch_outcome image epoch memory → exits image h ≡ true
    → first_epochs image (suc epoch) ≡ record { end = Exit epoch; bytes = memory' }
first_epochs-exits image epoch h memory memory' before outcome exit =
    one_more_epoch image epoch epoch memory before ∙ (ap (result_of image epoch) (sym outcome)
    ∙ ap (λ b. record { end = cond b (Exit epoch) (Done (epoch + 1)); bytes = memory' }) exit)

-- no epoch runs any more
abbrev pub IsLast : End → Type 0
IsLast (Done n) = ⊥
IsLast (Exit epoch) = Unit {0}
IsLast (Fault epoch cause pc) = Unit {0}

-- an end that isn't that of done epochs is the last
pub is_last : (end : End) → ((n : ℕ) → end ≡ Done n → ⊥) → IsLast end
is_last (Done n) other = other n refl
is_last (Exit epoch) other = tt
is_last (Fault epoch cause pc) other = tt

done_after : (b : Bool) (epoch n : ℕ) → cond b (Exit epoch) (Done (epoch + 1)) ≡ Done n → n ≡ epoch + 1
done_after false epoch n is = cc
done_after true epoch n is = cc

-- the epoch after which so many are done is the one before
pub done_counts : (image : LoadedImage) (epoch : ℕ) (progress : Progress) (n : ℕ)
    → (result_of image epoch progress).end ≡ Done n → n ≡ epoch + 1
done_counts image epoch (Ends h after) n is = done_after (exits image h) epoch n is
done_counts image epoch (Faults cause pc after) n is = cc
done_counts image epoch (Runs h after) n is = cc

then_epoch-last : (before : SequentialResult) (end : End) (next : List ℕ → SequentialResult) → IsLast end → then_epoch before end next ≡ before
then_epoch-last before (Done n) next last = absurd last
then_epoch-last before (Exit epoch) next last = refl
then_epoch-last before (Fault epoch cause pc) next last = refl

last_stays_once : (image : LoadedImage) (k : ℕ) (result : SequentialResult) → IsLast result.end
    → first_epochs image k ≡ result → first_epochs image (suc k) ≡ result
unfolding first_epochs
last_stays_once image k result last before =
    rw before (then_epoch-last result result.end (λ memory. result_of image k (epoch_outcome image k memory)) last)

pub last_stays : (image : LoadedImage) (k n : ℕ) (result : SequentialResult) → IsLast result.end
    → first_epochs image k ≡ result → first_epochs image (n + k) ≡ result
last_stays image k zero result last before =
    let none : 0 + k ≡ k = omega arith in ap (first_epochs image) none ∙ before
last_stays image k (suc n) result last before =
    let more : suc n + k ≡ suc (n + k) = omega arith in
    ap (first_epochs image) more ∙ last_stays_once image (n + k) result last (last_stays image k n result last before)

-- the loop's result, where this epoch is its last
pub sequential_result-last : (image : LoadedImage) (epoch : ℕ) (result : SequentialResult) → epoch < image.epochs → IsLast result.end
    → first_epochs image (suc epoch) ≡ result → sequential_result image ≡ result
unfolding sequential_result
sequential_result-last image epoch result within last here =
    let all : image.epochs ≡ (image.epochs - suc epoch) + suc epoch = omega arith in
    ap (first_epochs image) all ∙ last_stays image (suc epoch) (image.epochs - suc epoch) result last here

pub sequential_result-fault : (image : LoadedImage) (epoch cause pc : ℕ) (memory memory' : List ℕ) → epoch < image.epochs
    → first_epochs image epoch ≡ record { end = Done epoch; bytes = memory } → Faults cause pc memory' ≡ epoch_outcome image epoch memory
    → sequential_result image ≡ record { end = Fault epoch cause pc; bytes = memory' }
sequential_result-fault image epoch cause pc memory memory' within before outcome =
    sequential_result-last image epoch _ within tt (one_more_epoch image epoch epoch memory before ∙ ap (result_of image epoch) (sym outcome))

pub sequential_result-exit : (image : LoadedImage) (epoch : ℕ) (h : HartState) (memory memory' : List ℕ) → epoch < image.epochs
    → first_epochs image epoch ≡ record { end = Done epoch; bytes = memory } → Ends h memory' ≡ epoch_outcome image epoch memory → exits image h ≡ true
    → sequential_result image ≡ record { end = Exit epoch; bytes = memory' }
sequential_result-exit image epoch h memory memory' within before outcome exit =
    sequential_result-last image epoch _ within tt (first_epochs-exits image epoch h memory memory' before outcome exit)

pub sequential_result-done : (image : LoadedImage) (memory : List ℕ)
    → first_epochs image image.epochs ≡ record { end = Done image.epochs; bytes = memory }
    → sequential_result image ≡ record { end = Done image.epochs; bytes = memory }
unfolding sequential_result
sequential_result-done image memory is = is
