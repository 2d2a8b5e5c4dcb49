mod PlayingLaws
mod SharingLaws
