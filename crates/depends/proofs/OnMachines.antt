-- What the run in order shows, on the machine of a store: the plain store asks for nothing; and what it shows over caches.
use Rattle.std.proofs.Common.{◌≡◌, ◌⊎◌, ℕ, ap, ◌∙◌, inl, inr}
use Rattle.rv32_image.specs.Image.{LoadedImage}
use Rattle.trace_commands.specs.declared.store.MachineAsked.{MachineAsked}
use Rattle.trace_commands.specs.declared.store.Store.{Store}
use Rattle.trace_commands.specs.declared.store.Store.TheVariants.{Caches, Plain}
use Rattle.trace_commands.specs.Stores.{asked_by, nothing_asked, on_machine}
use Rattle.replay_command.specs.Stores.{on_store}
use Rattle.depends.specs.declared.ran.OverCaches.TheVariants.{Unseen}
use Rattle.depends.specs.declared.ran.Seen.{Seen}
use Rattle.depends.specs.Ran.{IsSeen, IsSeenOn}

pub seen_on : (image image' : LoadedImage) (store : Store) (cores : ℕ) (old seen : Seen) → image' ≡ on_store store image → IsSeen image cores old → seen.in_order ≡ old.in_order
    → ((seen.over_caches ≡ old.over_caches) × (asked_by store ≡ nothing_asked)) ⊎ (seen.over_caches ≡ Unseen) → IsSeenOn image' store cores seen
seen_on image image' (Caches asked) cores old seen is shown same (inl both) =
    let own : image' ≡ image = is ∙ ap (λ (a : MachineAsked). on_machine a image) both.1 in
    rw (own, both.0) shown.over
seen_on image image' (Caches asked) cores old seen is shown same (inr unseen) = rw unseen tt
seen_on image image' Plain cores old seen is shown same either = rw (is, same) shown.ran
