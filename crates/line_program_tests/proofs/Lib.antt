mod ToyListing
