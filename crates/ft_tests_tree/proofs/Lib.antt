mod MarkerLists
mod NewLeaves
mod PassingLaws
mod PlayingLaws
